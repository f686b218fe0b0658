-- The bytes of a command book.
use Rattle.std.specs.Prelude.{ℕ, ◌+◌, ◌*◌, ◌/◌, ◌%◌, List, [], ◌∷◌, length, slice_index, slice_set}

-- words of 16 bits as bytes, the low byte of each first
abbrev pub word_bytes : List ℕ → List ℕ
word_bytes [] = []
word_bytes (w ∷ ws) = w % 256 ∷ w / 256 ∷ word_bytes ws

-- the bytes of a record: its length in bytes, its kind, its answer and its fields, each a word
abbrev pub record_bytes : ℕ → ℕ → List ℕ → List ℕ
record_bytes kind answer fields = word_bytes ((6 + 2 * length fields) ∷ kind ∷ answer ∷ fields)

-- the word whose low byte is at i
abbrev pub word : List ℕ → ℕ → ℕ
word bs i = slice_index bs i + 256 * slice_index bs (i + 1)

-- the book bs once the word a is the answer of the record that begins at the byte at
abbrev pub answered : List ℕ → ℕ → ℕ → List ℕ
answered bs at a = slice_set (slice_set bs (at + 4) (a % 256)) (at + 5) (a / 256)
