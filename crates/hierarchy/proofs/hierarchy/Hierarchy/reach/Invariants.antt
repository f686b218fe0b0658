-- What is found and what the frontier reaches are together the reach of the set; the frontier goes down a finite way.
use Rattle.bits.specs.Sets.{members}
use Rattle.hierarchy.specs.Inheritance.{pairs_in}
use Rattle.hierarchy.proofs.Rounds.{Going, rounds_left}
use Rattle.hierarchy.proofs.hierarchy.Hierarchy.reach.Given as goal

abbrev pub invariant-loop-frontier : goal.invariant-loop-frontier
invariant-loop-frontier l = Going (pairs_in l.self.juniors) (members l.initial.frontier) (members l.frontier) (members l.all)

abbrev pub decreases-loop-frontier : goal.decreases-loop-frontier
decreases-loop-frontier l = rounds_left (pairs_in l.self.juniors) 65 (members l.frontier)
