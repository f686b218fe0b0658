-- The users that the loop has passed are without the role, and there are the same users.
use Rattle.std.proofs.Common.{◌≡◌, false, length}
use Rattle.vocabulary.proofs.Sweeps.{swept}
use Rattle.bits.specs.Tables.{put}
use Rattle.directory.specs.View.{exist_in, assigned_in}
use Rattle.directory.proofs.directory.Directory.unassign_all.Given as goal

abbrev pub invariant-loop-roles : goal.invariant-loop-roles
invariant-loop-roles l =
    (length l.roles-items ≡ 256)
    × (assigned_in l.roles-items ≡ swept (λ _. put l.role false) (assigned_in l.initial.roles-items) l.roles-index)
    × (exist_in l.roles-items ≡ exist_in l.initial.roles-items)
