-- Of n + 1 numbers below n two are equal.
use Rattle.std.proofs.Common.{◌≡◌, ℕ, zero, suc, ◌<◌, cond, eqb, ◌⊎◌, sym, ap, ◌∙◌, inl, inr, arith}
use Rattle.std.proofs.lemmas.Bool.{cases_eq, eq-eqb, ne_eqb, cond-true, cond-false}

-- whether v is among the first n
seek : (f : ℕ → ℕ) (v n : ℕ) → ((i : ℕ) × (i < n) × (f i ≡ v)) ⊎ ((i : ℕ) → i < n → f i ≡ v → ⊥)
seek f v zero = inr (λ i l e. omega arith)
seek f v (suc n) =
    elim (cases_eq (f n) v) [
      | inl e ↦ inl (n, omega arith, e)
      | inr z ↦ elim (seek f v n) [
        | inl h ↦ inl (h.0, omega arith, h.2)
        | inr none ↦ inr (λ i l e. elim (cases_eq i n) [ inl q ↦ z (ap f (sym q) ∙ e) | inr y ↦ none i (omega arith) e ])
      ]
    ]

-- f, with the value t in the place of m
swap : (ℕ → ℕ) → ℕ → ℕ → ℕ → ℕ
swap f m t i = cond (eqb (f i) m) t (f i)

swap_at : (f : ℕ → ℕ) (m t i : ℕ) → f i ≡ m → swap f m t i ≡ t
unfolding swap
swap_at f m t i e = cond-true (eqb (f i) m) t (f i) (eq-eqb (f i) m e)

swap_off : (f : ℕ → ℕ) (m t i : ℕ) → (f i ≡ m → ⊥) → swap f m t i ≡ f i
unfolding swap
swap_off f m t i z = cond-false (eqb (f i) m) t (f i) (ne_eqb (f i) m z)

abbrev pub Found : (ℕ → ℕ) → ℕ → Type 0
Found f n = (i : ℕ) × (j : ℕ) × (i < j) × (j < n) × (f i ≡ f j)

module _ (m : ℕ) (f : ℕ → ℕ) (h : (i : ℕ) → i < suc (suc m) → f i < suc m)
    (none : (i : ℕ) → i < suc m → f i ≡ f (suc m) → ⊥) where
  swap_lt : (i : ℕ) → i < suc m → swap f m (f (suc m)) i < m
  swap_lt i l =
      let last : f (suc m) < suc m = h (suc m) (omega arith) in
      let here : f i < suc m = h i (omega arith) in
      elim (cases_eq (f i) m) [
        | inl e ↦ let n : f (suc m) ≡ m → ⊥ = λ q. none i l (e ∙ sym q) in let s = swap_at f m (f (suc m)) i e in omega arith
        | inr z ↦ let s = swap_off f m (f (suc m)) i z in omega arith
      ]

  back : Found (swap f m (f (suc m))) (suc m) → Found f (suc (suc m))
  back (i, j, l, k, e) =
      let t : ℕ = f (suc m) in
      let li : i < suc m = omega arith in
      let r : f i ≡ f j =
      elim (cases_eq (f i) m) [
        | inl p ↦ elim (cases_eq (f j) m) [
          | inl q ↦ p ∙ sym q
          | inr q ↦ absurd (none j k (sym (swap_off f m t j q) ∙ sym e ∙ swap_at f m t i p))
        ]
        | inr p ↦ elim (cases_eq (f j) m) [
          | inl q ↦ absurd (none i li (sym (swap_off f m t i p) ∙ e ∙ swap_at f m t j q))
          | inr q ↦ sym (swap_off f m t i p) ∙ e ∙ swap_off f m t j q
        ]
      ]
      in (i, j, l, omega arith, r)

pub pigeons : (n : ℕ) (f : ℕ → ℕ) → ((i : ℕ) → i < suc n → f i < n) → Found f (suc n)
pigeons zero f h = let z : f 0 < 0 = h 0 (omega arith) in absurd (omega arith)
pigeons (suc m) f h =
    elim (seek f (f (suc m)) (suc m)) [
      | inl w ↦ (w.0, suc m, w.1, omega arith, w.2)
      | inr none ↦ back m f h none (pigeons m (swap f m (f (suc m))) (swap_lt m f h none))
    ]
