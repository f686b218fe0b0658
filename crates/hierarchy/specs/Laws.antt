-- What is true of every hierarchy, and what an edit does to the chains.
use Rattle.std.specs.Prelude.{◌≡◌, ℕ, Bool, true, false, ◌⊎◌}
use Rattle.hierarchy.specs.Inheritance.{Pairs, Bounded}
use Rattle.hierarchy.specs.Chains.{Above, Acyclic}

-- each follows from the other
abbrev pub Exactly : Type 0 → Type 0 → Type 0
Exactly A B = (A → B) × (B → A)

-- the hierarchy is a partial order of the 64 roles
pub record Order (pairs : Pairs) : Type 0 where
  pub inside : Bounded pairs
  pub acyclic : Acyclic pairs
  pub reflexive : (a : ℕ) → Above pairs a a
  pub transitive : (a m d : ℕ) → Above pairs a m → Above pairs m d → Above pairs a d
  pub antisymmetric : (a d : ℕ) → Above pairs a d → Above pairs d a → a ≡ d

-- r is in the reach of the set: some member is above or equal to it
abbrev pub Reached : Pairs → (ℕ → Bool) → ℕ → Type 0
Reached pairs set r = (a : ℕ) × (set a ≡ true) × Above pairs a r

-- x is above or equal to y by steps that are not gone
pub data Avoiding (pairs : Pairs) (gone : ℕ → ℕ → Bool) : ℕ → ℕ → Type 0 where
  same : {x : ℕ} → Avoiding pairs gone x x
  step : {x m y : ℕ} → pairs x m ≡ true → gone x m ≡ false → Avoiding pairs gone m y → Avoiding pairs gone x y

-- with (a, d) added, x is above or equal to y where it was, or where it was above a and d above y
abbrev pub Joined : Pairs → ℕ → ℕ → Pairs → Type 0
Joined old a d new = (x y : ℕ) → Exactly (Above new x y) (Above old x y ⊎ (Above old x a × Above old d y))

-- what is left is above or equal exactly by the chains that avoid what is gone
abbrev pub Cut : Pairs → (ℕ → ℕ → Bool) → Pairs → Type 0
Cut old gone new = (x y : ℕ) → Exactly (Above new x y) (Avoiding old gone x y)
