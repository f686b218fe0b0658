use Rattle.std.proofs.Common.{◌-◌, ◌^◌, ap, ◌∙◌}
use lib.Bits.{bit_and}
use Rattle.bits.specs.Sets.{has, but}
use Rattle.bits.proofs.Laws.{and_not_but, and_not_wide}
use Rattle.bits.proofs.set.BitSet.minus.Goals as goal

pub returns-clause-value : goal.returns-clause-value
returns-clause-value g c =
    let width = g.W.Word.WIDTH in
    c.from_number.ensures
    ∙ and_not_wide width c.widen.result c.widen-2.result g.met.W.Word.width c.widen.ensures.fits c.widen-2.ensures.fits
    ∙ ap (λ a. bit_and a (2 ^ width - 1 - c.widen-2.result)) c.widen.ensures.value
    ∙ ap (λ b. bit_and (g.W.Word.value c.args.self.bits) (2 ^ width - 1 - b)) c.widen-2.ensures.value

pub returns-clause-members : goal.returns-clause-members
returns-clause-members g c =
    let width = g.W.Word.WIDTH in
    ap has c.from_number.ensures
    ∙ ap has (and_not_wide width c.widen.result c.widen-2.result g.met.W.Word.width c.widen.ensures.fits c.widen-2.ensures.fits)
    ∙ and_not_but width c.widen.result c.widen-2.result c.widen.ensures.fits c.widen-2.ensures.fits
    ∙ ap (λ a. but (has a) (has c.widen-2.result)) c.widen.ensures.value
    ∙ ap (λ b. but (has (g.W.Word.value c.args.self.bits)) (has b)) c.widen-2.ensures.value
