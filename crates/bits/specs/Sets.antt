-- A number as a set of small numbers: n is a member where its bit worth 2 ^ n is 1.
use Rattle.std.specs.Prelude.{◌≡◌, ℕ, ◌+◌, ◌*◌, ◌/◌, ◌%◌, ◌^◌, Bool, true, false, not, ◌&&◌, ◌||◌, List, [], ◌∷◌, ◌==◌, slice_index}
use Rattle.bits.specs.declared.set.BitSet.{BitSet}

unfoldable pub has : ℕ → ℕ → Bool
has bits n = bits / 2 ^ n % 2 == 1

-- which numbers are in a set, as a function; value gives the number of its word
abbrev pub members_by : {W K : Type 0} → (W → ℕ) → BitSet W K → ℕ → Bool
members_by value s = has (value s.bits)

-- the same where the word is a number already, of whatever width
abbrev pub members : {K : Type 0} → BitSet ℕ K → ℕ → Bool
members s = has s.bits

-- words of 16 bits as one number, the lowest first
abbrev pub joined : List ℕ → ℕ
joined [] = 0
joined (w ∷ ws) = w + 65536 * joined ws

-- which numbers are in a set of such words: sixteen to each
abbrev pub spread : List ℕ → ℕ → Bool
spread ws n = has (slice_index ws (n / 16)) (n % 16)

-- operations on sets as functions
abbrev pub none : ℕ → Bool
none n = false

abbrev pub either : (ℕ → Bool) → (ℕ → Bool) → ℕ → Bool
either f g n = f n || g n

abbrev pub but : (ℕ → Bool) → (ℕ → Bool) → ℕ → Bool
but f g n = f n && not (g n)

-- some number is in both
abbrev pub Meet : (ℕ → Bool) → (ℕ → Bool) → Type 0
Meet f g = (n : ℕ) × (f n ≡ true) × (g n ≡ true)

-- every number of the first is in the second
abbrev pub Within : (ℕ → Bool) → (ℕ → Bool) → Type 0
Within f g = (n : ℕ) → f n ≡ true → g n ≡ true
