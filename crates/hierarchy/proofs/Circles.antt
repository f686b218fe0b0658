-- What keeps a hierarchy free of circles when its pairs change.
use Rattle.std.proofs.Common.{◌≡◌, ℕ, true, false, eqb, ◌⊎◌, sym, refl, ap, ◌∙◌, subst, inl, inr}
use Rattle.std.proofs.lemmas.Bool.{cases_Bool, eqb-true, eq-eqb, true≢false}
use Rattle.hierarchy.specs.Inheritance.{Pairs, Bounded}
use Rattle.hierarchy.specs.Chains.{Chain, one, more, Above, same, step, Acyclic}
use Rattle.hierarchy.specs.Edits.{put_pair}
use Rattle.hierarchy.proofs.Chains.{above_trans, chain_above}

pub above_more : (p q : Pairs) → ((x y : ℕ) → p x y ≡ true → q x y ≡ true) → (x y : ℕ) → Above p x y → Above q x y
above_more p q f x y same = same
above_more p q f x y (step {m = m} e w) = step (f x m e) (above_more p q f m y w)

chain_more : (p q : Pairs) → ((x y : ℕ) → p x y ≡ true → q x y ≡ true) → (x y : ℕ) → Chain p x y → Chain q x y
chain_more p q f x y (one e) = one (f x y e)
chain_more p q f x y (more {m = m} e c) = more (f x m e) (chain_more p q f m y c)

pub acyclic_fewer : (p q : Pairs) → ((x y : ℕ) → q x y ≡ true → p x y ≡ true) → Acyclic p → Acyclic q
acyclic_fewer p q f ac r c = ac r (chain_more q p f r r c)

pub acyclic_none : Acyclic (λ _ _. false)
acyclic_none r (one e) = true≢false (sym e)
acyclic_none r (more e c) = true≢false (sym e)

pub bounded_none : Bounded (λ _ _. false)
bounded_none a d e = absurd (true≢false (sym e))

-- with one pair more
module _ (pairs : Pairs) (a d : ℕ) where
  -- what the pairs were before is among them still
  pub put_keeps : (x y : ℕ) → pairs x y ≡ true → put_pair a d true pairs x y ≡ true
  put_keeps x y e =
      elim (cases_Bool (eqb x a)) [
        | inl row ↦ elim (cases_Bool (eqb y d)) [
          | inl here ↦ simp (row, here)
          | inr other ↦ simp (row, other) (ap (λ (n : ℕ). pairs n y) (sym (eqb-true x a row)) ∙ e)
        ]
        | inr other ↦ simp other e
      ]

  pub put_there : put_pair a d true pairs a d ≡ true
  put_there = let row = eq-eqb a a refl in let here = eq-eqb d d refl in simp (row, here)

  pub put_cases : (x y : ℕ) → put_pair a d true pairs x y ≡ true → (pairs x y ≡ true) ⊎ ((x ≡ a) × (y ≡ d))
  put_cases x y e =
      elim (cases_Bool (eqb x a)) [
        | inl row ↦ elim (cases_Bool (eqb y d)) [
          | inl here ↦ inr (eqb-true x a row, eqb-true y d here)
          | inr other ↦ inl (ap (λ (n : ℕ). pairs n y) (eqb-true x a row) ∙ (simp (row, other) at e))
        ]
        | inr other ↦ inl (simp other at e)
      ]

  -- from x down to a, and from d down to y
  abbrev Through : ℕ → ℕ → Type 0
  Through x y = Above pairs x a × Above pairs d y

  at_a : (x : ℕ) → x ≡ a → Above pairs x a
  at_a x e = subst (λ (z : ℕ). Above pairs x z) e same

  from_d : (m y : ℕ) → m ≡ d → Above pairs m y → Above pairs d y
  from_d m y e w = subst (λ (z : ℕ). Above pairs z y) e w

  pub above_cases : (x y : ℕ) → Above (put_pair a d true pairs) x y → Above pairs x y ⊎ Through x y
  above_cases x y same = inl same
  above_cases x y (step {m = m} e w) =
      elim (put_cases x m e) [
        | inl old ↦ elim (above_cases m y w) [ inl v ↦ inl (step old v) | inr t ↦ inr (step old t.0, t.1) ]
        | inr new ↦ elim (above_cases m y w) [ inl v ↦ inr (at_a x new.0, from_d m y new.1 v) | inr t ↦ inr (at_a x new.0, t.1) ]
      ]

  chain_cases : (x y : ℕ) → Chain (put_pair a d true pairs) x y → Chain pairs x y ⊎ Through x y
  chain_cases x y (one e) =
      elim (put_cases x y e) [ inl old ↦ inl (one old) | inr new ↦ inr (at_a x new.0, from_d y y new.1 same) ]
  chain_cases x y (more {m = m} e c) =
      elim (put_cases x m e) [
        | inl old ↦ elim (chain_cases m y c) [ inl v ↦ inl (more old v) | inr t ↦ inr (step old t.0, t.1) ]
        | inr new ↦ elim (chain_cases m y c) [ inl v ↦ inr (at_a x new.0, from_d m y new.1 (chain_above v)) | inr t ↦ inr (at_a x new.0, t.1) ]
      ]

  pub acyclic_put : Acyclic pairs → (Above pairs d a → ⊥) → Acyclic (put_pair a d true pairs)
  acyclic_put ac free r c = elim (chain_cases r r c) [ inl v ↦ ac r v | inr t ↦ free (above_trans t.1 t.0) ]
