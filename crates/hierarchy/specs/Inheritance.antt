-- Immediate inheritance: which role is put directly above which.
use Rattle.std.specs.Prelude.{◌≡◌, ℕ, ◌<◌, Bool, true, List, slice_index_or}
use Rattle.bits.specs.Sets.{members}
use Rattle.bits.specs.declared.set.Role.{Role}
use Rattle.bits.specs.declared.set.BitSet.{BitSet}

-- for a senior and a junior: yes or no
abbrev pub Pairs : Type 0
Pairs = ℕ → ℕ → Bool

-- every pair is of two of the 64 roles
abbrev pub Bounded : Pairs → Type 0
Bounded pairs = (a d : ℕ) → pairs a d ≡ true → (a < 64) × (d < 64)

abbrev pub no_roles : BitSet ℕ Role
no_roles = record { bits = 0; of = record {} }

-- each role's immediate juniors, read as pairs
abbrev pub pairs_in : List (BitSet ℕ Role) → Pairs
pairs_in juniors a = members (slice_index_or juniors a no_roles)
