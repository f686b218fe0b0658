-- A hierarchy is a partial order: its chains join, and no two of them make a circle.
use Rattle.hierarchy.specs.Chains.{same}
use Rattle.hierarchy.proofs.Chains.{above_trans, above_antisym}
use Rattle.hierarchy.proofs.hierarchy.Hierarchy.stands.Goals as goal

pub returns : goal.returns
returns c = record {
  inside = c.args.self.now.inside;
  acyclic = c.args.self.now.acyclic;
  reflexive = λ a. same;
  transitive = λ a m d. above_trans;
  antisymmetric = λ a d. above_antisym c.args.self.now.acyclic;
}
