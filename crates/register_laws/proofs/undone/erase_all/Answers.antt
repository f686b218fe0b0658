use Rattle.std.proofs.Common.{◌+◌, sym, ap, ◌∙◌, subst, arith}
use Rattle.register.specs.Meaning.{Register}
use Rattle.register_laws.specs.Owners.{HoldsNothingBelow}
use Rattle.register_laws.proofs.Emptied.{limit_kept, one_more, all_out}
use Rattle.register_laws.proofs.undone.erase_all.Goals as goal

pub loop-owner-preserved : goal.loop-owner-preserved
loop-owner-preserved g c =
    let m = g.R.ConsentRegister.meaning c.loop-owner.register in
    let k = c.loop-owner.owner in
    let left = c.erase.ensures in (
      subst (HoldsNothingBelow (k + 1)) (sym left) (one_more m k (omega arith) c.loop-owner.invariant.0),
      ap (λ (n : Register). n.limit) left ∙ limit_kept m k (omega arith) ∙ c.loop-owner.invariant.1,
    )

pub returns : goal.returns
returns g c =
    record {
      none = all_out (g.R.ConsentRegister.meaning c.loop-owner.register) c.loop-owner.owner (omega arith) (g.met.R.ConsentRegister.sound c.loop-owner.register) c.loop-owner.invariant.0;
      limit = c.loop-owner.invariant.1;
    }
