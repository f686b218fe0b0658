-- A reading finds a record exactly where every question is answered yes.
use Rattle.std.proofs.Common.{◌≡◌, ℕ, ◌+◌, ◌*◌, ◌≤◌, true, List, length, arith}
use Rattle.std.proofs.lemmas.Bool.Decides.{nat_tests}
use Rattle.calls.specs.Layout.{known, field_count}
use Rattle.book.specs.Format.{word}
use Rattle.book.specs.Reading.{found, fields_at, reading}

-- a record stands whole at the byte at
pub record Passes (bs : List ℕ) (at : ℕ) : Type 0 where
  pub small : length bs ≤ 65536
  pub within : at + 6 ≤ length bs
  pub long : 6 ≤ word bs at
  pub fits : at + word bs at ≤ length bs
  pub kind_known : known (word bs (at + 2)) ≡ true
  pub counted : word bs at ≡ 6 + 2 * field_count (word bs (at + 2))

pub passes_found : {bs : List ℕ} {at : ℕ} → Passes bs at → reading bs at ≡ found (word bs (at + 2)) (fields_at bs at)
passes_found {bs} {at} p = grind (arith, nat_tests, p.small, p.within, p.long, p.fits, p.kind_known, p.counted)

pub record Finds (bs : List ℕ) (at k : ℕ) (fs : List ℕ) : Type 0 where
  pub passes : Passes bs at
  pub kind : word bs (at + 2) ≡ k
  pub fields : fields_at bs at ≡ fs

pub found_passes : (bs : List ℕ) (at : ℕ) {k : ℕ} {fs : List ℕ} → reading bs at ≡ found k fs → Finds bs at k fs
found_passes bs at {k} {fs} e = grind (arith, nat_tests, e)
