-- Chains of immediate inheritances.
use Rattle.std.specs.Prelude.{◌≡◌, ℕ, true}
use Rattle.hierarchy.specs.Inheritance.{Pairs}

-- one or more steps lead from a down to d
pub data Chain (pairs : Pairs) : ℕ → ℕ → Type 0 where
  one : {a d : ℕ} → pairs a d ≡ true → Chain pairs a d
  more : {a m d : ℕ} → pairs a m ≡ true → Chain pairs m d → Chain pairs a d

-- a is above or equal to d: no steps, or more
pub data Above (pairs : Pairs) : ℕ → ℕ → Type 0 where
  same : {a : ℕ} → Above pairs a a
  step : {a m d : ℕ} → pairs a m ≡ true → Above pairs m d → Above pairs a d

-- no chain leads from a role back to itself
abbrev pub Acyclic : Pairs → Type 0
Acyclic pairs = (r : ℕ) → Chain pairs r r → ⊥
