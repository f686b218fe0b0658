-- The rows that the loop has passed are without the role.
use Rattle.std.proofs.Common.{◌≡◌, false, length}
use Rattle.bits.specs.Tables.{put}
use Rattle.vocabulary.proofs.Sweeps.{swept}
use Rattle.hierarchy.specs.Inheritance.{pairs_in}
use Rattle.hierarchy.proofs.hierarchy.Hierarchy.without_role.Given as goal

abbrev pub invariant-loop-row : goal.invariant-loop-row
invariant-loop-row l = (length l.row-items ≡ 64) × (pairs_in l.row-items ≡ swept (λ _. put l.role false) (pairs_in l.initial.row-items) l.row-index)
