-- What a call is answered, and the number of each answer.
use Rattle.std.specs.Prelude.{ℕ, cond, Ok, Err, Result, Some, None, Option, ◌==◌}
use Rattle.register.specs.Meaning.{Register, held}
use Rattle.register.specs.Answers.{answer_number, give_answer, withdraw_answer}
use Rattle.register.specs.declared.fault.RegisterFault.{RegisterFault}
use Rattle.register.specs.declared.fault.RegisterFault.TheVariants.{OutOfRange, AlreadyGiven, NotGiven, Full}
use Rattle.account.specs.declared.entry.Answer.{Answer}
use Rattle.account.specs.declared.entry.Answer.TheVariants.{Change, Held}
use Rattle.account.specs.declared.entry.Entry.{Entry}
use Rattle.account.specs.declared.entry.Step.{Step}
use Rattle.account.specs.declared.entry.Step.TheVariants.{Give, Withdraw, Erase, Strike, Ask}

-- the number of an answer
abbrev pub number_of : Answer → ℕ
number_of (Change r) = answer_number r
number_of (Held b) = cond b 1 0

-- of an entry: that of its answer, and 0 where it has none
abbrev pub option_number : Option Answer → ℕ
option_number (Some a) = number_of a
option_number None = 0

abbrev pub entry_number : Entry → ℕ
entry_number e = option_number e.answer

-- the answer of a register that has this number
abbrev pub with_number : ℕ → Result (Unit {0}) RegisterFault
with_number n = cond (n == 0) (Ok tt) (cond (n == 1) (Err OutOfRange) (cond (n == 9) (Err AlreadyGiven) (cond (n == 10) (Err NotGiven) (Err Full))))

-- what a call is answered
abbrev pub answer_of : Register → Step → Answer
answer_of m (Give x) = Change (with_number (give_answer m x.owner x.purpose x.data_type))
answer_of m (Withdraw x) = Change (with_number (withdraw_answer m x.owner x.purpose x.data_type))
answer_of m (Erase o) = Change (Ok tt)
answer_of m (Strike p) = Change (Ok tt)
answer_of m (Ask x) = Held (held m x.owner x.purpose x.data_type)
