use Rattle.std.proofs.Common.{arith}
use Rattle.std.proofs.lemmas.Bool.{both_ways}
use Rattle.records.specs.Sets.{records}
use Rattle.register.proofs.Lists.{none_held, none_owned_by}
use Rattle.register.proofs.list_register.ListRegister.over.Goals as goal

pub invariant_of-result : goal.invariant_of-result
invariant_of-result c =
    let xs = records c.new.result in
    let none = c.new.ensures.none in
    record {
      inside = λ x e. absurd (both_ways _ (none_held xs x.owner x.purpose x.data_type none) e);
      under = λ o. omega (arith, none_owned_by xs o none);
      enough = omega (arith, c.new.ensures.room);
    }
