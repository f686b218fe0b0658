use Rattle.std.proofs.Common.{ap, ◌∙◌}
use Rattle.bits.specs.Sets.{has}
use Rattle.bits.proofs.Laws.{zero_none}
use Rattle.bits.proofs.set.BitSet.empty.Goals as goal

pub returns-clause-members : goal.returns-clause-members
returns-clause-members g c = ap has c.from_number.ensures ∙ zero_none
