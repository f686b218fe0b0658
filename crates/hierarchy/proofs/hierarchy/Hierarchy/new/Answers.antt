-- Every row is empty.
use Rattle.std.proofs.Common.{sym, subst}
use Rattle.bits.specs.Sets.{members, none}
use Rattle.bits.proofs.Laws.{zero_none}
use Rattle.vocabulary.proofs.Lists.{fresh}
use Rattle.hierarchy.specs.Inheritance.{no_roles, Bounded}
use Rattle.hierarchy.specs.Chains.{Acyclic}
use Rattle.hierarchy.proofs.Circles.{acyclic_none, bounded_none}
use Rattle.hierarchy.proofs.hierarchy.Hierarchy.new.Goals as goal

pub invariant_of-result : goal.invariant_of-result
invariant_of-result c =
    let is = fresh members 64 c.empty.result no_roles none c.empty.ensures.members zero_none in
    record { acyclic = subst Acyclic (sym is) acyclic_none; inside = subst Bounded (sym is) bounded_none }

pub returns : goal.returns
returns c = fresh members 64 c.empty.result no_roles none c.empty.ensures.members zero_none
