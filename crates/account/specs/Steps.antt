-- What the calls of an account are answered and leave.
use Rattle.std.specs.Prelude.{ℕ, false, cond, Some, List, [], ◌∷◌}
use Rattle.vocabulary.specs.Runs.{answered as all_answered, after_all as after_all_of}
use Rattle.register.specs.Meaning.{Register, held}
use Rattle.register.specs.Answers.{give_answer, after_give, withdraw_answer, after_withdraw, after_erase, after_strike}
use Rattle.account.specs.Answers.{answer_of}
use Rattle.account.specs.declared.entry.Entry.{Entry}
use Rattle.account.specs.declared.entry.Step.{Step}
use Rattle.account.specs.declared.entry.Step.TheVariants.{Give, Withdraw, Erase, Strike, Ask}

-- the number of what a call is answered
abbrev pub step_answer : Register → Step → ℕ
step_answer m (Give x) = give_answer m x.owner x.purpose x.data_type
step_answer m (Withdraw x) = withdraw_answer m x.owner x.purpose x.data_type
step_answer m (Erase o) = 0
step_answer m (Strike p) = 0
step_answer m (Ask x) = cond (held m x.owner x.purpose x.data_type) 1 0

abbrev pub after_step : Register → Step → Register
after_step m (Give x) = after_give m x.owner x.purpose x.data_type
after_step m (Withdraw x) = after_withdraw m x.owner x.purpose x.data_type
after_step m (Erase o) = after_erase m o
after_step m (Strike p) = after_strike m p.purpose p.data_type
after_step m (Ask x) = m

abbrev pub after_entry : Register → Entry → Register
after_entry m e = after_step m e.step

-- the entry with the answer of its call
abbrev pub with_answer : Register → Entry → Entry
with_answer m e = record { step = e.step; answer = Some (answer_of m e.step) }

-- the entries with the answers of their calls, each made on what the calls before it left
abbrev pub answered : Register → List Entry → List Entry
answered = all_answered with_answer after_entry

-- what all the calls leave
abbrev pub after_all : Register → List Entry → Register
after_all = after_all_of after_entry

-- the numbers of the answers, each on what the calls before it left
unfoldable pub numbers : Register → List Entry → List ℕ
numbers m [] = []
numbers m (e ∷ es) = step_answer m e.step ∷ numbers (after_entry m e) es

-- a register of this limit that holds nothing
abbrev pub nothing : ℕ → Register
nothing limit = record { limit = limit; entries = λ o q t. false }
