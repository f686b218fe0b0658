use Rattle.std.proofs.Common.{◌*◌, ◌%◌, ◌^◌, ◌<◌, true, sym, ap, ◌∙◌, arith, subst}
use lib.Pow.{pow-lt}
use Rattle.std.proofs.lemmas.Bool.{lt-ltb, cond-true}
use Rattle.std.proofs.lemmas.Nat.{or_lt}
use Rattle.bits.specs.Sets.{has}
use Rattle.bits.specs.Tables.{put}
use Rattle.bits.proofs.Bits.{one_bit}
use Rattle.bits.proofs.Laws.{with_bit}
use Rattle.bits.proofs.set.BitSet.with.Goals as goal

pub from_number-requires : goal.from_number-requires
from_number-requires g c =
    let n = c.args.n in
    let width = g.W.Word.WIDTH in
    let bit = subst (λ b. b < 2 ^ width) (sym (one_bit 64 n (omega (arith, g.met.W.Word.width)))) (pow-lt {i = n} {j = width} (omega arith)) in
    or_lt width c.widen-bits.result ((1 * 2 ^ n) % 2 ^ 64) c.widen-bits.ensures.fits bit

pub returns-clause-members : goal.returns-clause-members
returns-clause-members g c =
    let n = c.args.n in
    ap has c.from_number.ensures
    ∙ with_bit 64 c.widen-bits.result n (omega (arith, g.met.W.Word.width))
    ∙ ap (λ a. put n true (has a)) c.widen-bits.ensures.value
    ∙ sym (cond-true _ _ _ (lt-ltb n g.W.Word.WIDTH (omega arith)))
