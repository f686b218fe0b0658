-- What the calls of a register answer, by number, and what they leave.
use Rattle.std.specs.Prelude.{ℕ, true, false, cond, not, ◌&&◌, Ok, Err, Result, nat_le, nat_lt}
use Rattle.records.specs.declared.set.SetFault.{SetFault}
use Rattle.records.specs.declared.set.SetFault.TheVariants.{AlreadyThere, NotThere, NoPlace}
use Rattle.register.specs.Meaning.{Register, held, counted, owned, in_range, put_one, no_owner, no_pair}
use Rattle.register.specs.declared.fault.RegisterFault.{RegisterFault}
use Rattle.register.specs.declared.fault.RegisterFault.TheVariants.{OutOfRange, AlreadyGiven, NotGiven, Full}

-- the number of each refusal
abbrev pub fault_number : RegisterFault → ℕ
fault_number OutOfRange = 1
fault_number AlreadyGiven = 9
fault_number NotGiven = 10
fault_number Full = 13

-- what a register says where its set refused
abbrev pub of_set_fault : SetFault → RegisterFault
of_set_fault AlreadyThere = AlreadyGiven
of_set_fault NotThere = NotGiven
of_set_fault NoPlace = Full

-- the number of an answer: 0 where it was accepted
abbrev pub answer_number : Result (Unit {0}) RegisterFault → ℕ
answer_number (Ok u) = 0
answer_number (Err f) = fault_number f

abbrev pub give_answer : Register → ℕ → ℕ → ℕ → ℕ
give_answer m o q t =
    cond (not (in_range o q t)) 1
    (cond (held m o q t) 9
    (cond (nat_le m.limit (owned (counted m) o)) 13 0))

abbrev pub after_give : Register → ℕ → ℕ → ℕ → Register
after_give m o q t =
    cond (not (in_range o q t)) m
    (cond (held m o q t) m
    (cond (nat_le m.limit (owned (counted m) o)) m (record { limit = m.limit; entries = put_one o q t true m.entries })))

abbrev pub withdraw_answer : Register → ℕ → ℕ → ℕ → ℕ
withdraw_answer m o q t = cond (not (in_range o q t)) 1 (cond (counted m o q t) 0 10)

abbrev pub after_withdraw : Register → ℕ → ℕ → ℕ → Register
after_withdraw m o q t =
    cond (not (in_range o q t)) m
    (cond (counted m o q t) (record { limit = m.limit; entries = put_one o q t false m.entries }) m)

abbrev pub after_erase : Register → ℕ → Register
after_erase m o = cond (nat_lt o 128) (record { limit = m.limit; entries = no_owner o m.entries }) m

abbrev pub after_strike : Register → ℕ → ℕ → Register
after_strike m q t = cond (nat_lt q 16 && nat_lt t 16) (record { limit = m.limit; entries = no_pair q t m.entries }) m
