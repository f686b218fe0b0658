use Rattle.std.proofs.Common.{◌≤◌, length, decimal, ap, arith, length-append}
use Rattle.std.proofs.lemmas.Fmt.{length-decimal-le}
use Rattle.lines.proofs.line.Line.put_number.Goals as goal

pub put_digits-requires : goal.put_digits-requires
put_digits-requires c = omega (arith, length-decimal-le 20 c.args.n (omega arith) (omega arith) (omega arith))

pub returns : goal.returns
returns c =
    let twenty : length (decimal c.args.n) ≤ 20 = length-decimal-le 20 c.args.n (omega arith) (omega arith) (omega arith) in
    record { text = c.put_digits.ensures; short = omega (arith, simp length-append at (ap length c.put_digits.ensures)) }
