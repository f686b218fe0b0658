-- The sessions that the loop has passed are closed if they are meant.
use Rattle.std.proofs.Common.{◌≡◌, length}
use Rattle.vocabulary.proofs.Sweeps.{swept}
use Rattle.bits.specs.Sets.{members}
use Rattle.directory.specs.View.{sessions_in}
use Rattle.directory.proofs.Endings.{closed_if}
use Rattle.directory.proofs.directory.Directory.end_sessions.Given as goal

abbrev pub invariant-loop-number : goal.invariant-loop-number
invariant-loop-number l =
    (length l.session-items ≡ 64)
    × (sessions_in l.session-items ≡ swept (closed_if (members l.which)) (sessions_in l.initial.session-items) l.number)
