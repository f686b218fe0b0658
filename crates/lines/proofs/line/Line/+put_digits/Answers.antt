use Rattle.std.proofs.Common.{◌+◌, ◌/◌, ◌%◌, [], ◌∷◌, ◌++◌, length, decimal, sym, ap, ◌∙◌, append_assoc, arith, length-append}
use Rattle.std.proofs.lemmas.Fmt.{decimal_digit, decimal_step, decimal_nonempty}
use Rattle.lines.specs.Lines.{text}
use Rattle.lines.proofs.line.Line.+put_digits.Goals as goal

pub put-requires : goal.put-requires
put-requires t c = omega (arith, decimal_nonempty c.args.n (omega arith))

pub returns-then-n-lt10 : goal.returns-then-n-lt10
returns-then-n-lt10 t c = c.put.ensures ∙ ap (λ l. text c.args.self.now ++ l) (sym (decimal_digit c.args.n (omega arith)))

pub put_digits-requires : goal.put_digits-requires
put_digits-requires t c =
    let e = ap length (decimal_step c.args.n (omega arith) (omega arith)) in
    (omega arith, omega (arith, simp length-append at e))

pub put-requires-2 : goal.put-requires-2
put-requires-2 t c =
    let e = ap length (decimal_step c.args.n (omega arith) (omega arith)) in
    omega (arith, simp length-append at e, simp length-append at (ap length c.put_digits.ensures))

pub returns : goal.returns
returns t c =
    let n = c.args.n in
    let before = text c.args.self.now in
    c.put-2.ensures
    ∙ ap (λ l. l ++ (48 + n % 10) ∷ []) c.put_digits.ensures
    ∙ append_assoc before (decimal (n / 10)) _
    ∙ ap (λ l. before ++ l) (sym (decimal_step n (omega arith) (omega arith)))
