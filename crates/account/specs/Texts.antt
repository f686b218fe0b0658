-- The text of each call, and of each answer.
use Rattle.std.specs.Prelude.{ℕ, true, false, List, ◌++◌, codes, decimal}
use Rattle.account.specs.Answers.{number_of}
use Rattle.account.specs.declared.entry.Answer.{Answer}
use Rattle.account.specs.declared.entry.Answer.TheVariants.{Change, Held}
use Rattle.account.specs.declared.entry.Step.{Step}
use Rattle.account.specs.declared.entry.Step.TheVariants.{Give, Withdraw, Erase, Strike, Ask}

-- numbers with a space between them
abbrev pub two_numbers : ℕ → ℕ → List ℕ
two_numbers a b = decimal a ++ (codes " " ++ decimal b)

abbrev pub three_numbers : ℕ → ℕ → ℕ → List ℕ
three_numbers a b c = decimal a ++ (codes " " ++ two_numbers b c)

abbrev pub step_text : Step → List ℕ
step_text (Give x) = codes "give " ++ three_numbers x.owner x.purpose x.data_type
step_text (Withdraw x) = codes "withdraw " ++ three_numbers x.owner x.purpose x.data_type
step_text (Erase o) = codes "erase " ++ decimal o
step_text (Strike p) = codes "strike " ++ two_numbers p.purpose p.data_type
step_text (Ask x) = codes "owner " ++ (decimal x.owner ++ (codes " holds " ++ two_numbers x.purpose x.data_type))

-- a change shows its number
abbrev pub answer_text : Answer → List ℕ
answer_text (Change r) = decimal (number_of (Change r))
answer_text (Held true) = codes "yes"
answer_text (Held false) = codes "no"
