-- Turns: calls with what they were answered.
use Rattle.std.specs.Prelude.{ℕ, Bool}
use Rattle.directory.specs.Answers.{answer_number, answer_ends}
use Rattle.directory.specs.State.{DirectoryState}
use Rattle.directory_laws.specs.Steps.{step_answer, step_ends, after_step}
use Rattle.directory_laws.specs.declared.call.DirectoryCall.{DirectoryCall}
use Rattle.directory_laws.specs.declared.turn.Turn.{Turn}

-- a turn, with the sessions that ended as a function of the number
pub record Told : Type 0 where
  pub call : DirectoryCall
  pub number : ℕ
  pub ended : ℕ → Bool

abbrev pub as_told : DirectoryCall → ℕ → (ℕ → Bool) → Told
as_told c n e = record { call = c; number = n; ended = e }

abbrev pub told : Turn → Told
told t = as_told t.call (answer_number t.answer) (answer_ends t.answer)

-- the turn with the answer that its call has in this state
abbrev pub with_answer : DirectoryState → Told → Told
with_answer d t = as_told t.call (step_answer d t.call) (step_ends d t.call)

abbrev pub after_turn : DirectoryState → Told → DirectoryState
after_turn d t = after_step d t.call
