-- One pair is out, and the row's others stay.
use Rattle.std.proofs.Common.{◌≡◌, false, set, rules}
use Rattle.hierarchy.specs.Inheritance.{pairs_in}
use Rattle.hierarchy.specs.Edits.{put_pair}
use Rattle.hierarchy.proofs.Rows.{pair_written}
use Rattle.hierarchy.proofs.Cutting.{cut_acyclic, cut_bounded, cut_above, pair_gone}
use Rattle.hierarchy.proofs.hierarchy.Hierarchy.without_edge.Goals as goal
use Rattle.hierarchy.proofs.hierarchy.Hierarchy.without_edge.Goals.{After-without}

left : (c : After-without) → pairs_in (set c.args.self.juniors c.args.senior c.without.result) ≡ put_pair c.args.senior c.args.junior false (pairs_in c.args.self.juniors)
left c = pair_written c.args.self.juniors c.args.senior c.args.junior false c.without.result (search rules) c.without.ensures.members

pub invariant_of-result : goal.invariant_of-result
invariant_of-result c =
    let h = c.args.self in
    let gone = pair_gone (pairs_in h.juniors) c.args.senior c.args.junior _ (left (goal.at.invariant_of-result c).After-without) in
    record { acyclic = cut_acyclic (pairs_in h.juniors) _ _ gone h.acyclic; inside = cut_bounded (pairs_in h.juniors) _ _ gone h.inside }

pub returns : goal.returns
returns c =
    let before = (goal.at.returns c).After-without in
    record {
      answer = search rules;
      left = left before;
      above = cut_above (pairs_in c.args.self.juniors) _ _ (pair_gone (pairs_in c.args.self.juniors) c.args.senior c.args.junior _ (left before));
    }
