-- What is found are the juniors of the roles that the loop has passed.
use Rattle.std.proofs.Common.{◌≡◌}
use Rattle.bits.specs.Sets.{members}
use Rattle.hierarchy.specs.Inheritance.{pairs_in}
use Rattle.hierarchy.proofs.Juniors.{juniors_so_far}
use Rattle.hierarchy.proofs.hierarchy.Hierarchy.juniors_of.Given as goal

abbrev pub invariant-loop-role : goal.invariant-loop-role
invariant-loop-role l = members l.found ≡ juniors_so_far (pairs_in l.self.juniors) (members l.set) l.role
