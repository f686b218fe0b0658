-- What a set of records holds, and what its calls answer and leave.
use Rattle.std.specs.Prelude.{◌≡◌, ℕ, ◌+◌, min, Bool, true, false, cond, List, [], ◌∷◌, ◌++◌, length, take, Ok, Err, Result, nat_lt}
use Rattle.records.specs.Lists.{holds, apart, without}
use Rattle.records.specs.declared.record.Record.{Ghosts}
use Rattle.records.specs.declared.set.RecordSet.{RecordSet}
use Rattle.records.specs.declared.set.SetFault.{SetFault}
use Rattle.records.specs.declared.set.SetFault.TheVariants.{AlreadyThere, NotThere, NoPlace}

-- the number of each refusal
abbrev pub fault_number : SetFault → ℕ
fault_number AlreadyThere = 9
fault_number NotThere = 10
fault_number NoPlace = 13

-- the number of an answer: 0 where it was accepted
abbrev pub answer_number : Result (Unit {0}) SetFault → ℕ
answer_number (Ok u) = 0
answer_number (Err f) = fault_number f

module _ {T : Type 0} {g : Ghosts T} where
  -- the records, in their order
  abbrev pub records : RecordSet T g → List T
  records s = take s.count s.places.now

  -- how many records there is room for: the places, but no more than the cap
  abbrev pub room : RecordSet T g → ℕ
  room s = min (length s.places.now) s.cap

module _ {T : Type 0} where
  module _ (equal : T → T → Bool) where
    -- the number of the answer to adding x to the records xs, of which n have room
    abbrev pub add_answer : ℕ → List T → T → ℕ
    add_answer n xs x = cond (holds equal xs x) 9 (cond (nat_lt (length xs) n) 0 13)

    abbrev pub after_add : ℕ → List T → T → List T
    after_add n xs x = cond (holds equal xs x) xs (cond (nat_lt (length xs) n) (xs ++ x ∷ []) xs)

    abbrev pub remove_answer : List T → T → ℕ
    remove_answer xs x = cond (holds equal xs x) 0 10

    -- what the records xs and the new list ys have to do with each other where x was added
    pub record Gains (xs ys : List T) (x : T) : Type 0 where
      pub found : holds equal ys x ≡ true
      pub others : (z : T) → equal x z ≡ false → holds equal ys z ≡ holds equal xs z
      pub undone : without equal ys x ≡ xs
      pub one_more : length ys ≡ length xs + 1

    -- and where it was taken out
    pub record Loses (xs ys : List T) (x : T) : Type 0 where
      pub gone : holds equal ys x ≡ false
      pub others : (z : T) → equal x z ≡ false → holds equal ys z ≡ holds equal xs z
      pub one_less : apart equal xs ≡ true → length ys + 1 ≡ length xs
