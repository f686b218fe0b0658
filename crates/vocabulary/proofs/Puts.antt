-- Tables with one place put.
use Rattle.std.proofs.Common.{◌≡◌, ℕ, zero, suc, Bool, true, false, ◌⊎◌, sym, refl, ap, ◌∙◌, inl, inr}
use mathlib.Core.Path.{fun_ext}
use Rattle.std.proofs.lemmas.Bool.{cases_eq, eq-eqb, ne_eqb, true≢false}
use Rattle.vocabulary.specs.Questions.{if_accepted}
use Rattle.bits.specs.Tables.{put}

module _ {A : Type 0} (n : ℕ) (f : ℕ → A) where
  pub put_here : (x : A) → put n x f n ≡ x
  put_here x = let e = eq-eqb n n refl in simp e

  pub put_at : (x : A) (k : ℕ) → k ≡ n → put n x f k ≡ x
  put_at x k here = let e = eq-eqb k n here in simp e

  pub put_other : (x : A) (k : ℕ) → (k ≡ n → ⊥) → put n x f k ≡ f k
  put_other x k other = let e = ne_eqb k n other in simp e

  -- what stands there already
  pub put_same : put n (f n) f ≡ f
  put_same =
      fun_ext (λ k. elim (cases_eq k n) [
        | inl here ↦ let e = eq-eqb k n here in simp e (ap f (sym here))
        | inr other ↦ put_other (f n) k other
      ])

  pub put_twice : (x y : A) → put n y (put n x f) ≡ put n y f
  put_twice x y =
      fun_ext (λ k. elim (cases_eq k n) [
        | inl here ↦ let e = eq-eqb k n here in simp e
        | inr other ↦ let e = ne_eqb k n other in simp e
      ])

  -- a call that is refused leaves its place, and so the table
  pub put_accepted : (answer : ℕ) (x : A) → put n (if_accepted answer x (f n)) f ≡ if_accepted answer (put n x f) f
  put_accepted zero x = refl
  put_accepted (suc m) x = put_same

module _ (f : ℕ → Bool) (n k : ℕ) where
  -- what was in stays in where one more is put in
  pub put_keeps : f k ≡ true → put n true f k ≡ true
  put_keeps e = elim (cases_eq k n) [ inl here ↦ put_at n f true k here | inr other ↦ put_other n f true k other ∙ e ]

  pub put_cases : put n true f k ≡ true → (k ≡ n) ⊎ (f k ≡ true)
  put_cases e = elim (cases_eq k n) [ inl here ↦ inl here | inr other ↦ inr (sym (put_other n f true k other) ∙ e) ]

  -- what is in where one was taken out was in, and is another
  pub put_left : put n false f k ≡ true → (k ≡ n → ⊥) × (f k ≡ true)
  put_left e =
      elim (cases_eq k n) [
        | inl here ↦ absurd (true≢false (sym e ∙ put_at n f false k here))
        | inr other ↦ (other, sym (put_other n f false k other) ∙ e)
      ]

  pub put_stays : (k ≡ n → ⊥) → f k ≡ true → put n false f k ≡ true
  put_stays ne e = put_other n f false k ne ∙ e

module _ (f : ℕ → ℕ → Bool) (n m a b : ℕ) where
  -- the same of a table of two numbers
  pub put_two_keeps : f a b ≡ true → put n (put m true (f n)) f a b ≡ true
  put_two_keeps e =
      elim (cases_eq a n) [
        | inl here ↦ ap (λ g. g b) (put_at n f (put m true (f n)) a here) ∙ put_keeps (f n) m b (ap (λ j. f j b) (sym here) ∙ e)
        | inr other ↦ ap (λ g. g b) (put_other n f (put m true (f n)) a other) ∙ e
      ]

  pub put_two_cases : put n (put m true (f n)) f a b ≡ true → ((a ≡ n) × (b ≡ m)) ⊎ (f a b ≡ true)
  put_two_cases e =
      elim (cases_eq a n) [
        | inl here ↦
            elim (put_cases (f n) m b (sym (ap (λ g. g b) (put_at n f (put m true (f n)) a here)) ∙ e)) [
              | inl there ↦ inl (here, there)
              | inr was ↦ inr (ap (λ j. f j b) here ∙ was)
            ]
        | inr other ↦ inr (sym (ap (λ g. g b) (put_other n f (put m true (f n)) a other)) ∙ e)
      ]

  pub put_two_left : put n (put m false (f n)) f a b ≡ true → f a b ≡ true
  put_two_left e =
      elim (cases_eq a n) [
        | inl here ↦ ap (λ j. f j b) here ∙ (put_left (f n) m b (sym (ap (λ g. g b) (put_at n f (put m false (f n)) a here)) ∙ e)).1
        | inr other ↦ sym (ap (λ g. g b) (put_other n f (put m false (f n)) a other)) ∙ e
      ]
