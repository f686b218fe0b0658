use Rattle.std.proofs.Common.{◌≡◌, Decides, subst}
use Rattle.bits.specs.Sets.{members_by, none}
use Rattle.bits.proofs.Laws.{decides_within}
use Rattle.bits.proofs.set.BitSet.is_subset.Goals as goal

pub returns : goal.returns
returns g c =
    let members = members_by g.W.Word.value in
    let r = c.is_empty.result in
    decides_within (members c.args.self) (members c.args.other) r (subst (λ f. Decides r (f ≡ none)) c.minus.ensures.members c.is_empty.ensures)
