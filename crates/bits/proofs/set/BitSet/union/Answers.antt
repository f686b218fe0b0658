use Rattle.std.proofs.Common.{ap, ◌∙◌}
use Rattle.std.proofs.lemmas.Nat.{or_lt}
use Rattle.bits.specs.Sets.{has, either}
use Rattle.bits.proofs.Laws.{or_either}
use Rattle.bits.proofs.set.BitSet.union.Goals as goal

pub from_number-requires : goal.from_number-requires
from_number-requires g c = or_lt g.W.Word.WIDTH c.widen.result c.widen-2.result c.widen.ensures.fits c.widen-2.ensures.fits

pub returns-clause-members : goal.returns-clause-members
returns-clause-members g c =
    ap has c.from_number.ensures
    ∙ or_either c.widen.result c.widen-2.result
    ∙ ap (λ a. either (has a) (has c.widen-2.result)) c.widen.ensures.value
    ∙ ap (λ b. either (has (g.W.Word.value c.args.self.bits)) (has b)) c.widen-2.ensures.value
