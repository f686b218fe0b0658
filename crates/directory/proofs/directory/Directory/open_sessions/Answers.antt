use Rattle.std.proofs.Common.{ap, ◌∙◌}
use Rattle.bits.specs.Tables.{count_below}
use Rattle.vocabulary.proofs.Counts.{count_so_far}
use Rattle.directory.specs.State.{is_open}
use Rattle.directory.specs.Sessions.{sessions_that}
use Rattle.directory.specs.View.{state_of}
use Rattle.directory.proofs.directory.Directory.open_sessions.Goals as goal

pub returns : goal.returns
unfolding sessions_that
returns c =
    c.len.ensures
    ∙ ap (λ f. count_below f 64) c.sessions_that.ensures
    ∙ count_so_far (λ s. is_open ((state_of c.args.self.now).session s)) 64
