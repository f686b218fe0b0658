-- Each turn adds the juniors of one role, if it is in the set.
use Rattle.std.proofs.Common.{◌≡◌, sym, ap, ◌∙◌, arith}
use Rattle.bits.specs.Sets.{members, either}
use Rattle.hierarchy.specs.Inheritance.{pairs_in}
use Rattle.hierarchy.proofs.Juniors.{juniors_so_far, juniors_none, juniors_all, juniors_yes, juniors_no}
use Rattle.hierarchy.proofs.hierarchy.Hierarchy.juniors_of.Goals as goal
use Rattle.hierarchy.proofs.hierarchy.Hierarchy.juniors_of.Goals.{then-contains, else-contains}

pub loop-role-init : goal.loop-role-init
loop-role-init c = c.empty-found.ensures.members ∙ juniors_none (pairs_in c.args.self.now.juniors) (members c.args.set)

pub loop-role-preserved : goal.loop-role-preserved
loop-role-preserved c =
    let pairs = pairs_in c.args.self.now.juniors in
    let set = members c.args.set in
    elim c.if-contains.branch [
      | then-contains w ↦
          ap members w.found-is
          ∙ w.union-found.ensures.members
          ∙ ap (λ f. either f (pairs c.loop-role.role)) c.loop-role.invariant
          ∙ juniors_yes pairs set c.loop-role.role (sym c.contains.ensures ∙ w.if-contains.true)
      | else-contains w ↦
          ap members w.found-is
          ∙ c.loop-role.invariant
          ∙ juniors_no pairs set c.loop-role.role (sym c.contains.ensures ∙ w.if-contains.false)
    ]

pub returns : goal.returns
returns c =
    let pairs = pairs_in c.args.self.now.juniors in
    let set = members c.args.set in
    let end : c.loop-role.role ≡ 64 = omega arith in
    c.loop-role.invariant ∙ ap (juniors_so_far pairs set) end ∙ juniors_all pairs set
