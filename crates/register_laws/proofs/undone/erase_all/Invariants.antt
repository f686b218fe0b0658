use Rattle.std.proofs.Common.{◌≡◌}
use Rattle.register_laws.specs.Owners.{HoldsNothingBelow}
use Rattle.register_laws.proofs.undone.erase_all.Given as goal

abbrev pub invariant-loop-owner : goal.invariant-loop-owner
invariant-loop-owner g l = HoldsNothingBelow l.owner (g.R.ConsentRegister.meaning l.register) × ((g.R.ConsentRegister.meaning l.register).limit ≡ (g.R.ConsentRegister.meaning l.initial.register).limit)
