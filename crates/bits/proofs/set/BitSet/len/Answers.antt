use Rattle.std.proofs.Common.{sym, ap, ◌∙◌}
use Rattle.bits.specs.Sets.{has}
use Rattle.bits.specs.Tables.{count_below}
use Rattle.bits.proofs.Counts.{count_ones}
use Rattle.bits.proofs.set.BitSet.len.Goals as goal

pub returns : goal.returns
returns g c =
    let width = g.W.Word.WIDTH in
    sym (count_ones width c.widen.result c.widen.ensures.fits) ∙ ap (λ a. count_below (has a) width) c.widen.ensures.value
