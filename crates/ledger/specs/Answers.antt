-- The answers of the calls: the number of each, and the values that it carries.
use Rattle.std.specs.Prelude.{ℕ, List, [], ◌∷◌, replicate, Ok, Err, Result}
use Rattle.vocabulary.specs.Questions.{Question, first_no, if_accepted}
use Rattle.ledger.specs.declared.counts.Counts.{Counts}
use Rattle.ledger.specs.declared.fault.LedgerFault.{LedgerFault}
use Rattle.ledger.specs.declared.fault.LedgerFault.TheVariants.{OutOfRange, PlacesTaken, SerialsUsedUp, NotOpen}
use Rattle.ledger.specs.declared.permit.Permit.{Permit}
use Rattle.ledger.specs.declared.place.Use.{Use}

-- 0 is the number of an accepted call
pub record Answer : Type 0 where
  pub number : ℕ
  pub values : List ℕ

abbrev pub fault_number : LedgerFault → ℕ
fault_number OutOfRange = 1
fault_number PlacesTaken = 16
fault_number SerialsUsedUp = 17
fault_number NotOpen = 18

-- the answer that a result is: an accepted one carries its values, a refusal what is given for it
abbrev pub number_of : {X : Type 0} → Result X LedgerFault → ℕ
number_of (Ok x) = 0
number_of (Err f) = fault_number f

abbrev pub values_of : {X : Type 0} → (X → List ℕ) → List ℕ → Result X LedgerFault → List ℕ
values_of carried none (Ok x) = carried x
values_of carried none (Err f) = none

abbrev pub answer_of : {X : Type 0} → (X → List ℕ) → List ℕ → Result X LedgerFault → Answer
answer_of carried none r = record { number = number_of r; values = values_of carried none r }

-- the same for each sort of result
abbrev pub done_answer : Result (Unit {0}) LedgerFault → Answer
done_answer = answer_of (λ _. []) []

abbrev pub serial_answer : Result ℕ LedgerFault → Answer
serial_answer = answer_of (λ n. n ∷ []) []

abbrev pub permit_answer : Result Permit LedgerFault → Answer
permit_answer = answer_of (λ p. p.number.owner ∷ p.number.serial ∷ []) []

abbrev pub usage_answer : Result Use LedgerFault → Answer
usage_answer = answer_of (λ u. u.session ∷ u.operation ∷ u.object ∷ u.purpose ∷ []) []

abbrev pub counts_answer : Result Counts LedgerFault → Answer
counts_answer = answer_of (λ c. c.issued ∷ c.entered ∷ c.handed_back ∷ c.lapsed ∷ c.«open» ∷ []) (replicate 5 0)

-- the answer to these questions: 0 with the values, or the first no with what is given for a refusal
abbrev pub answered : List Question → List ℕ → List ℕ → Answer
answered asked values none = record { number = first_no asked; values = if_accepted (first_no asked) values none }
