-- The reach of the senior alone tells.
use Rattle.std.proofs.Common.{true, cond, ◌&&◌, ltb, ap, ◌∙◌}
use Rattle.std.proofs.lemmas.Bool.Decides.{Decides-at, Decides-and, Decides-ltb}
use Rattle.bits.specs.Tables.{put}
use Rattle.hierarchy.specs.Inheritance.{pairs_in}
use Rattle.hierarchy.specs.Reach.{reach_of, above_or_equal}
use Rattle.hierarchy.proofs.Reaching.{reach_alone, reach_with}
use Rattle.hierarchy.proofs.hierarchy.Hierarchy.above_or_equal.Goals as goal

pub returns : goal.returns
returns c =
    let h = c.args.self.now in
    let pairs = pairs_in h.juniors in
    let senior = c.args.senior in
    let junior = c.args.junior in
    let value =
    c.contains.ensures
    ∙ ap (λ f. f junior) c.reach.ensures.value
    ∙ ap (λ f. reach_of pairs f junior) (c.with.ensures.members ∙ ap (λ f. cond (ltb senior 64) (put senior true f) f) c.empty.ensures.members)
    ∙ reach_with pairs senior junior in
    record {
      value = value;
      chain = Decides-at c.contains.result (ltb senior 64 && above_or_equal pairs senior junior) value
          (Decides-and (ltb senior 64) (above_or_equal pairs senior junior) (Decides-ltb senior 64) (reach_alone pairs h.inside h.acyclic senior junior));
    }
