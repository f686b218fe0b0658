-- The numbers of answers.
use Rattle.std.proofs.Common.{◌≡◌, Bool, true, false, cond, List, [], ◌∷◌, refl, not, leb}
use Rattle.std.specs.Prelude.{map}
use Rattle.vocabulary.specs.Runs.{answered as all_answered}
use Rattle.register.specs.Meaning.{Register, held, counted, owned, in_range}
use Rattle.register.specs.Answers.{answer_number}
use Rattle.account.specs.declared.entry.Entry.{Entry}
use Rattle.account.specs.declared.entry.Step.{Step}
use Rattle.account.specs.declared.entry.Step.TheVariants.{Give, Withdraw, Erase, Strike, Ask}
use Rattle.account.specs.Answers.{number_of, entry_number, with_number, answer_of}
use Rattle.account.specs.Steps.{step_answer, after_entry, answered, numbers}

given : (a b c : Bool) → answer_number (with_number (cond a 1 (cond b 9 (cond c 13 0)))) ≡ cond a 1 (cond b 9 (cond c 13 0))
given true b c = refl
given false true c = refl
given false false true = refl
given false false false = refl

withdrawn : (a b : Bool) → answer_number (with_number (cond a 1 (cond b 0 10))) ≡ cond a 1 (cond b 0 10)
withdrawn true b = refl
withdrawn false true = refl
withdrawn false false = refl

-- the number of what a call is answered is the call's number
number_is : (m : Register) (s : Step) → number_of (answer_of m s) ≡ step_answer m s
number_is m (Give x) = given (not (in_range x.owner x.purpose x.data_type)) (held m x.owner x.purpose x.data_type) (leb m.limit (owned (counted m) x.owner))
number_is m (Withdraw x) = withdrawn (not (in_range x.owner x.purpose x.data_type)) (counted m x.owner x.purpose x.data_type)
number_is m (Erase o) = refl
number_is m (Strike p) = refl
number_is m (Ask x) = refl

pub numbered : (m : Register) (es : List Entry) → map entry_number (answered m es) ≡ numbers m es
unfolding all_answered numbers
numbered m [] = refl
numbered m (e ∷ es) = λ i. number_is m e.step i ∷ numbered (after_entry m e) es i
