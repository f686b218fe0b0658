-- What stands at a place of a book, by the questions in their order: the first no decides.
use Rattle.std.specs.Prelude.{ℕ, ◌+◌, ◌-◌, ◌*◌, Bool, true, false, cond, not, List, length, take, drop, ◌==◌, nat_le, nat_lt}
use Rattle.calls.specs.Layout.{known, field_count}
use Rattle.book.specs.Format.{word}

-- the end of the book, a fault by its number, or a record with its kind and its field bytes
pub data Found : Type 0 where
  ends : Found
  faulty : ℕ → Found
  found : ℕ → List ℕ → Found

-- the field bytes of the record that begins at the byte at
abbrev pub fields_at : List ℕ → ℕ → List ℕ
fields_at bs at = take (word bs at - 6) (drop (at + 6) bs)

-- what stands at the byte at
abbrev pub reading : List ℕ → ℕ → Found
reading bs at =
    cond (nat_lt 65536 (length bs)) (faulty 20)
    (cond (nat_le (length bs) at) ends
    (cond (nat_lt (length bs - at) 6) (faulty 21)
    (cond (nat_lt (word bs at) 6) (faulty 21)
    (cond (nat_lt (length bs - at) (word bs at)) (faulty 21)
    (cond (not (known (word bs (at + 2)))) (faulty 22)
    (cond (not (word bs at == 6 + 2 * field_count (word bs (at + 2)))) (faulty 23)
    (found (word bs (at + 2)) (fields_at bs at))))))))

abbrev pub is_record : Found → Bool
is_record ends = false
is_record (faulty f) = false
is_record (found k fs) = true
