-- Rows of sets of data types: for each owner and each purpose a set.
use Rattle.std.specs.Prelude.{◌≡◌, ℕ, ◌<◌, ◌&&◌, List, [], length, slice_index_or}
use Rattle.bits.specs.Sets.{members}
use Rattle.bits.specs.declared.set.BitSet.{BitSet}
use Rattle.bits.specs.declared.set.DataType.{DataType}
use Rattle.register.specs.Meaning.{Consents, in_range}

abbrev pub no_types : BitSet ℕ DataType
no_types = record { bits = 0; of = record {} }

-- every row has a set for each purpose
abbrev pub Wide : List (List (BitSet ℕ DataType)) → Type 0
Wide rows = (o : ℕ) → o < length rows → length (slice_index_or rows o []) ≡ 16

abbrev pub entries_in : List (List (BitSet ℕ DataType)) → Consents
entries_in rows o q t = in_range o q t && members (slice_index_or (slice_index_or rows o []) q no_types) t
