use Rattle.std.proofs.Common.{◌≡◌, arith, rules}
use Rattle.calls.specs.Layout.{field_count}
use Rattle.calls.proofs.Few.{field_count_few}
use Rattle.calls.proofs.layout.fields_of.Goals as goal

pub returns-clause-few : goal.returns-clause-few
returns-clause-few c =
    let is : c.unwrap_or.result ≡ field_count c.args.kind = search rules in
    omega (arith, is, field_count_few c.args.kind)
