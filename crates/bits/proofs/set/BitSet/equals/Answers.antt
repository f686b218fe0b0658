use Rattle.std.proofs.Common.{◌≡◌, Decides, sym, ◌∙◌, subst}
use Rattle.bits.specs.Sets.{has}
use Rattle.bits.proofs.Laws.{decides_same}
use Rattle.bits.proofs.set.BitSet.equals.Goals as goal

pub returns-clause-members : goal.returns-clause-members
returns-clause-members g c =
    let a = c.args.self.bits in
    let b = c.args.other.bits in
    let value = g.W.Word.value in
    subst (λ r. Decides r (has (value a) ≡ has (value b))) (sym (c.eq.ensures ∙ g.met.W.Word.equal a b)) (decides_same (value a) (value b))
