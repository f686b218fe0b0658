-- No kind has more than four fields.
use Rattle.std.proofs.Common.{ℕ, zero, suc, ◌≡◌, ◌≤◌, Bool, true, ◌&&◌, leb, List, [], ◌∷◌, get_or, refl, arith}
use Rattle.std.proofs.lemmas.Bool.{and_parts, leb-true}
use Rattle.calls.specs.Layout.{field_count, field_counts}

abbrev few : List ℕ → Bool
few [] = true
few (n ∷ ns) = leb n 4 && few ns

few_at : (ns : List ℕ) (k : ℕ) → few ns ≡ true → get_or ns k 0 ≤ 4
few_at [] k h = omega arith
few_at (n ∷ ns) zero h = leb-true n 4 (and_parts (leb n 4) (few ns) h).0
few_at (n ∷ ns) (suc k) h = few_at ns k (and_parts (leb n 4) (few ns) h).1

pub field_count_few : (k : ℕ) → field_count k ≤ 4
field_count_few k = few_at field_counts k refl
