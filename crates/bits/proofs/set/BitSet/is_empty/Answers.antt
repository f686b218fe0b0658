use Rattle.bits.proofs.Laws.{decides_none}
use Rattle.bits.proofs.set.BitSet.is_empty.Goals as goal

pub returns : goal.returns
returns g c = rw c.widen.ensures.value (decides_none (g.W.Word.value c.args.self.bits))
