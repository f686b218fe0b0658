use Rattle.std.proofs.Common.{◌-◌, ◌^◌, false, sym, ap, ◌∙◌, arith}
use lib.Bits.{bit_and}
use lib.Pow.{pow-lt}
use Rattle.std.proofs.lemmas.Bool.{lt-ltb, cond-true}
use Rattle.bits.specs.Sets.{has}
use Rattle.bits.specs.Tables.{put}
use Rattle.bits.proofs.Bits.{one_bit}
use Rattle.bits.proofs.Laws.{and_not_wide, without_bit, without_high}
use Rattle.bits.proofs.set.BitSet.without.Goals as goal

pub returns-then-n-WIDTH-clause-members : goal.returns-then-n-WIDTH-clause-members
returns-then-n-WIDTH-clause-members g c =
    let n = c.args.n in
    sym (ap has c.widen-bits.ensures.value)
    ∙ without_high g.W.Word.WIDTH c.widen-bits.result n c.widen-bits.ensures.fits (omega arith)
    ∙ ap (λ a. put n false (has a)) c.widen-bits.ensures.value

pub returns-clause-value : goal.returns-clause-value
returns-clause-value g c =
    let n = c.args.n in
    let width = g.W.Word.WIDTH in
    c.from_number.ensures
    ∙ ap (λ b. bit_and c.widen-bits.result (2 ^ 64 - 1 - b)) (one_bit 64 n (omega (arith, g.met.W.Word.width)))
    ∙ and_not_wide width c.widen-bits.result (2 ^ n) g.met.W.Word.width c.widen-bits.ensures.fits (pow-lt {i = n} {j = width} (omega arith))
    ∙ ap (λ a. bit_and a (2 ^ width - 1 - 2 ^ n)) c.widen-bits.ensures.value
    ∙ sym (cond-true _ _ _ (lt-ltb n width (omega arith)))

pub returns-clause-members : goal.returns-clause-members
returns-clause-members g c =
    let n = c.args.n in
    ap has c.from_number.ensures
    ∙ without_bit 64 c.widen-bits.result n (omega (arith, g.met.W.Word.width)) (omega arith)
    ∙ ap (λ a. put n false (has a)) c.widen-bits.ensures.value
