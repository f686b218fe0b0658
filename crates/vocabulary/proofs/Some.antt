-- Whether some number passes.
use Rattle.std.proofs.Common.{◌≡◌, ℕ, zero, suc, ◌<◌, Bool, true, sym, ap, ◌∙◌, inl, inr, arith}
use Rattle.std.proofs.lemmas.Bool.{cases_eq, or_cases, or_left, or_right}
use Rattle.vocabulary.specs.Tables.{some_below}

pub some_is : (n : ℕ) (p : ℕ → Bool) → some_below n p ≡ true → (k : ℕ) × (k < n) × (p k ≡ true)
unfolding some_below
some_is zero p e = let z : ◌≡◌ {A = ℕ} 0 1 = cc in absurd (omega arith)
some_is (suc n) p e =
    elim (or_cases (some_below n p) (p n) e) [
      | inl below ↦ let w = some_is n p below in (w.0, omega arith, w.2)
      | inr here ↦ (n, omega arith, here)
    ]

pub some_from : (n : ℕ) (p : ℕ → Bool) (k : ℕ) → k < n → p k ≡ true → some_below n p ≡ true
unfolding some_below
some_from zero p k l e = absurd (omega arith)
some_from (suc n) p k l e =
    elim (cases_eq k n) [
      | inl last ↦ or_right (some_below n p) (p n) (ap p (sym last) ∙ e)
      | inr other ↦ or_left (some_below n p) (p n) (some_from n p k (omega arith) e)
    ]
