-- A loop that changes the entries of a table one after another.
use Rattle.std.proofs.Common.{◌≡◌, ℕ, ◌+◌, ◌<◌, ◌≤◌, cond, ltb, List, length, get_or, set, sym, ap, ◌∙◌, inl, inr, arith}
use mathlib.Core.Path.{fun_ext}
use Rattle.std.proofs.lemmas.Bool.{cases_eq, cases_lt, eq-eqb, ne_eqb, lt-ltb, le-ltb}
use Rattle.bits.specs.Tables.{put}
use Rattle.vocabulary.proofs.Lists.{put_set}

-- the table f with its entries below n changed by g
abbrev pub swept : {A : Type 0} → (ℕ → A → A) → (ℕ → A) → ℕ → ℕ → A
swept g f n k = cond (ltb k n) (g k (f k)) (f k)

module _ {A : Type 0} (g : ℕ → A → A) (f : ℕ → A) where
  pub swept_none : f ≡ swept g f 0
  swept_none = fun_ext (λ k. let past = le-ltb k 0 (omega arith) in simp past)

  pub swept_more : (n : ℕ) → put n (g n (swept g f n n)) (swept g f n) ≡ swept g f (n + 1)
  swept_more n =
      fun_ext (λ k. elim (cases_eq k n) [
        | inl here ↦
            let e = eq-eqb k n here in
            let before = le-ltb n n (omega arith) in
            let now = lt-ltb k (n + 1) (omega arith) in
            simp (e, before, now) (ap (λ (j : ℕ). g j (f j)) (sym here))
        | inr other ↦
            let e = ne_eqb k n other in
            elim (cases_lt k n) [
              | inl below ↦ let a = lt-ltb k n below in let b = lt-ltb k (n + 1) (omega arith) in simp (e, a, b)
              | inr above ↦ let a = le-ltb k n above in let b = le-ltb k (n + 1) (omega arith) in simp (e, a, b)
            ]
      ])

  -- where nothing past n is to be changed, all is done
  pub swept_all : (n : ℕ) → ((k : ℕ) → n ≤ k → g k (f k) ≡ f k) → swept g f n ≡ (λ k. g k (f k))
  swept_all n past =
      fun_ext (λ k. elim (cases_lt k n) [
        | inl below ↦ let a = lt-ltb k n below in simp a
        | inr above ↦ let a = le-ltb k n above in simp a (sym (past k above))
      ])

  -- the loop writes the entry n of a list that is read as the table
  pub swept_set : {X : Type 0} (read : X → A) (xs : List X) (v d : X) (n : ℕ) → n < length xs → (λ (k : ℕ). read (get_or xs k d)) ≡ swept g f n → read v ≡ g n (read (get_or xs n d)) → (λ (k : ℕ). read (get_or (set xs n v) k d)) ≡ swept g f (n + 1)
  swept_set read xs v d n inside so-far written =
      put_set read xs n v d inside
      ∙ ap (λ y. put n y (λ k. read (get_or xs k d))) written
      ∙ ap (λ h. put n (g n (h n)) h) so-far
      ∙ swept_more n
