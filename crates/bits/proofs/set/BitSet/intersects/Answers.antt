use Rattle.bits.proofs.Laws.{decides_meet}
use Rattle.bits.proofs.set.BitSet.intersects.Goals as goal

pub returns : goal.returns
returns g c = rw c.widen.ensures.value (rw c.widen-2.ensures.value (decides_meet (g.W.Word.value c.args.self.bits) (g.W.Word.value c.args.other.bits)))
