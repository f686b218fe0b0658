use Rattle.std.proofs.Common.{◌≡◌, map}
use Rattle.vocabulary.proofs.Runs.{first_answered, after_first}
use Rattle.directory.specs.State.{bare}
use Rattle.directory.specs.View.{state_of}
use Rattle.directory_laws.specs.Turns.{told, with_answer, after_turn}
use Rattle.directory_laws.proofs.run.run.Given as goal

abbrev pub invariant-loop-turn : goal.invariant-loop-turn
invariant-loop-turn l =
    (map told l.turns ≡ first_answered with_answer after_turn l.turn-index bare (map told l.initial.turns))
    × (state_of l.directory ≡ after_first after_turn l.turn-index bare (map told l.initial.turns))
