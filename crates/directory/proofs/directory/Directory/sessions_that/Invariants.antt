use Rattle.std.proofs.Common.{◌≡◌}
use Rattle.vocabulary.specs.Tables.{so_far}
use Rattle.bits.specs.Sets.{members}
use Rattle.directory.specs.Sessions.{is_meant}
use Rattle.directory.specs.View.{state_of}
use Rattle.directory.proofs.directory.Directory.sessions_that.Given as goal

abbrev pub invariant-loop-number : goal.invariant-loop-number
invariant-loop-number l = members l.found ≡ so_far (λ s. is_meant (state_of l.self) l.which ((state_of l.self).session s)) l.number
