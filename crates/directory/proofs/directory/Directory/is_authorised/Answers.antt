use Rattle.std.proofs.Common.{◌≡◌, ◌^◌, ◌<◌, Decides, ap, ◌∙◌, subst, rules}
use Rattle.bits.specs.Sets.{members, Within}
use Rattle.hierarchy.specs.Reach.{reach_of}
use Rattle.bits.proofs.Laws.{members_inside}
use Rattle.hierarchy.proofs.Subsets.{all_in_decided}
use Rattle.directory.specs.View.{state_of}
use Rattle.directory.proofs.directory.Directory.is_authorised.Goals as goal

pub returns : goal.returns
returns c =
    let d = state_of c.args.self.now in
    let wanted = c.args.wanted in
    let few : wanted.bits < 2 ^ 64 = search rules in
    let assigned : members c.unwrap_or-assigned.result ≡ d.assigned c.args.user = search rules in
    let reached : members c.reach.result ≡ reach_of d.inherits (d.assigned c.args.user) = c.reach.ensures.value ∙ ap (reach_of d.inherits) assigned in
    all_in_decided (members wanted) (reach_of d.inherits (d.assigned c.args.user)) c.is_subset.result (members_inside wanted few)
    (subst (λ f. Decides c.is_subset.result (Within (members wanted) f)) reached c.is_subset.ensures)
