-- Each round goes one step down; when the frontier is empty, all is found.
use Rattle.std.proofs.Common.{sym, refl, ap, ◌∙◌, rules}
use Rattle.std.proofs.lemmas.Bool.{false≢true}
use Rattle.bits.specs.Sets.{members}
use Rattle.bits.proofs.Laws.{members_inside}
use Rattle.hierarchy.specs.Inheritance.{pairs_in}
use Rattle.hierarchy.proofs.Reaching.{reach_sound, reach_complete}
use Rattle.hierarchy.proofs.Rounds.{going_start, going_more, going_done, rounds_fall}
use Rattle.hierarchy.proofs.hierarchy.Hierarchy.reach.Goals as goal

pub loop-frontier-init : goal.loop-frontier-init
loop-frontier-init c =
    let h = c.args.self.now in
    going_start (pairs_in h.juniors) h.inside h.acyclic (members c.args.set) (members_inside c.args.set (search rules))

pub loop-frontier-preserved : goal.loop-frontier-preserved
loop-frontier-preserved c =
    let h = c.args.self.now in
    going_more (pairs_in h.juniors) h.inside h.acyclic _ _ _ _ _ c.loop-frontier.invariant c.juniors_of-frontier.ensures c.union-all.ensures.members

pub loop-frontier-smaller : goal.loop-frontier-smaller
loop-frontier-smaller c =
    let h = c.args.self.now in
    rounds_fall (pairs_in h.juniors) h.inside h.acyclic _ _ c.juniors_of-frontier.ensures c.loop-frontier.invariant.inside
    (λ empty. false≢true (c.loop-frontier-test.ensures.1 empty))

pub returns : goal.returns
returns c =
    let h = c.args.self.now in
    let pairs = pairs_in h.juniors in
    let set = members c.args.set in
    let is = going_done pairs h.inside h.acyclic set _ _ c.loop-frontier.invariant (c.loop-frontier-test.ensures.0 refl) in
    record {
      value = is;
      reached = λ k. (
        (λ e. reach_sound pairs set k (sym (ap (λ f. f k) is) ∙ e)),
        (λ w. ap (λ f. f k) is ∙ reach_complete pairs h.inside h.acyclic set k w),
      );
    }
