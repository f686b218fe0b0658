-- One pair is in; since the junior was not above the senior, it closes no circle.
use Rattle.std.proofs.Common.{◌≡◌, ◌<◌, true, set, ◌∙◌, rules}
use Rattle.std.proofs.lemmas.Bool.{cond-true, lt-ltb}
use Rattle.std.proofs.lemmas.Bool.Decides.{not_from_Decides}
use Rattle.hierarchy.specs.Inheritance.{pairs_in}
use Rattle.hierarchy.specs.Chains.{Above}
use Rattle.hierarchy.specs.Edits.{put_pair}
use Rattle.hierarchy.proofs.Rows.{pair_written}
use Rattle.hierarchy.proofs.Joining.{joined_acyclic, joined_bounded, joined_above}
use Rattle.hierarchy.proofs.hierarchy.Hierarchy.with_edge.Goals as goal
use Rattle.hierarchy.proofs.hierarchy.Hierarchy.with_edge.Goals.{After-with}

range : (c : After-with) → (c.args.senior < 64) × (c.args.junior < 64)
range c = search rules

left : (c : After-with) → pairs_in (set c.args.self.juniors c.args.senior c.with.result) ≡ put_pair c.args.senior c.args.junior true (pairs_in c.args.self.juniors)
left c =
    pair_written c.args.self.juniors c.args.senior c.args.junior true c.with.result (search rules)
    (c.with.ensures.members ∙ cond-true _ _ _ (lt-ltb c.args.junior 64 (range c).1))

-- no way leads from the junior to the senior
free : (c : After-with) → Above (pairs_in c.args.self.juniors) c.args.junior c.args.senior → ⊥
free c w = not_from_Decides c.above_or_equal-circle.result c.above_or_equal-circle.ensures.chain c.if-circle.false ((range c).1, w)

pub invariant_of-result : goal.invariant_of-result
invariant_of-result c =
    let h = c.args.self in
    let pairs = pairs_in h.juniors in
    let a = c.args.senior in
    let d = c.args.junior in
    record {
      acyclic = joined_acyclic pairs a d _ (left c) h.acyclic (free c);
      inside = joined_bounded pairs a d _ (left c) (range c).0 (range c).1 h.inside;
    }

pub returns : goal.returns
returns c =
    let before = (goal.at.returns c).After-with in
    record {
      answer = search rules;
      left = left before;
      above = joined_above (pairs_in c.args.self.juniors) c.args.senior c.args.junior _ (left before);
    }
