-- A reader finds exactly the records that stand in the book, byte for byte.
use Rattle.std.specs.Prelude.{◌≡◌, ℕ, ◌+◌, ◌*◌, ◌≤◌, true, List, length, take, drop}
use Rattle.calls.specs.Layout.{known, field_count}
use Rattle.book.specs.Format.{word_bytes, record_bytes}
use Rattle.book.specs.Reading.{Found, found}

-- a record of a known kind, with as many fields as the kind has, stands at the byte at
pub record Stands (bs : List ℕ) (at kind answer : ℕ) (fields : List ℕ) : Type 0 where
  pub kind_known : known kind ≡ true
  pub counted : length fields ≡ field_count kind
  pub bytes : take (6 + 2 * length fields) (drop at bs) ≡ record_bytes kind answer fields

pub record Framed (bs : List ℕ) (at : ℕ) (r : Found) : Type 0 where
  -- what is found stands there, and its field bytes are those of its fields
  pub stands : (kind : ℕ) (bytes : List ℕ) → r ≡ found kind bytes → (answer : ℕ) × (fields : List ℕ) × Stands bs at kind answer fields × (bytes ≡ word_bytes fields)
  -- what stands in a book that is not too large is found, whatever its answer
  pub finds : (kind answer : ℕ) (fields : List ℕ) → length bs ≤ 65536 → Stands bs at kind answer fields → r ≡ found kind (word_bytes fields)
