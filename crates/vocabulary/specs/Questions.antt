-- A call meets questions in a fixed order, and the first no decides.
use Rattle.std.specs.Prelude.{ℕ, zero, suc, Bool, true, false, cond, List, [], ◌∷◌}

-- a question: the number that answers the call where it is answered no, and its answer
pub record Question : Type 0 where
  pub number : ℕ
  pub holds : Bool

abbrev pub asks : ℕ → Bool → Question
asks n b = record { number = n; holds = b }

-- the number of the first no, or 0 where there is none: the call is then accepted
abbrev pub first_no : List Question → ℕ
first_no [] = 0
first_no (q ∷ qs) = cond q.holds (first_no qs) q.number

-- what a call leaves: the new state where its answer is 0, and else the old one
abbrev pub if_accepted : {S : Type 0} → ℕ → S → S → S
if_accepted zero new old = new
if_accepted (suc n) new old = old

-- whether a call with this number was accepted
abbrev pub is_accepted : ℕ → Bool
is_accepted zero = true
is_accepted (suc n) = false
