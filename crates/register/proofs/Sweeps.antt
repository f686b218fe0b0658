-- A pair's entries that are taken out one owner after another.
use Rattle.std.proofs.Common.{◌≡◌, ℕ, ◌+◌, ◌<◌, ◌≤◌, Bool, true, false, cond, ◌&&◌, ◌||◌, eqb, ltb, sym, refl, ap, ◌∙◌, ⊎_elim, arith}
use mathlib.Core.Path.{fun_ext}
use Rattle.std.proofs.lemmas.Bool.{both_ways, cond-false, cases_Bool, cases_lt, lt-ltb, le-ltb, and_left}
use Rattle.std.proofs.lemmas.Bool.Decides.{nat_tests}
use Rattle.register.specs.Meaning.{Consents, in_range, no_pair}

-- a pair's entries of the owners below k are out
unfoldable pub owners_out : ℕ → ℕ → ℕ → Consents → Consents
owners_out q t k f a b c = cond (ltb a k && (eqb b q && eqb c t)) false (f a b c)

next : (a k : ℕ) → (eqb a k || ltb a k) ≡ ltb a (k + 1)
next a k = grind (arith, nat_tests)

joined_first : (x y p f : Bool) → cond (x && p) false (cond (y && p) false f) ≡ cond ((x || y) && p) false f
joined_first true true true f = refl
joined_first true true false f = refl
joined_first true false true f = refl
joined_first true false false f = refl
joined_first false true true f = refl
joined_first false true false f = refl
joined_first false false true f = refl
joined_first false false false f = refl

out_of_none : (x : Bool) → cond x false false ≡ false
out_of_none true = refl
out_of_none false = refl

module _ (f : Consents) (inside : (a b c : ℕ) → f a b c ≡ true → in_range a b c ≡ true) where
  -- nothing is held out of range
  pub outside : (a b c : ℕ) → in_range a b c ≡ false → f a b c ≡ false
  outside a b c out = ⊎_elim (λ t. let z = inside a b c t in absurd (both_ways (in_range a b c) out z)) (λ e. e) (cases_Bool (f a b c))

  pub owners_none : (q t : ℕ) → f ≡ owners_out q t 0 f
  unfolding owners_out
  owners_none q t = fun_ext (λ a. fun_ext (λ b. fun_ext (λ c. sym (cond-false _ _ _ (and_left (ltb a 0) _ (le-ltb a 0 (omega arith)))))))

  pub owners_more : (g h : Consents) (q t k : ℕ) → g ≡ owners_out q t k f → ((a b c : ℕ) → h a b c ≡ cond (eqb a k && (eqb b q && eqb c t)) false (g a b c)) → h ≡ owners_out q t (k + 1) f
  unfolding owners_out
  owners_more g h q t k so_far is =
      fun_ext (λ a. fun_ext (λ b. fun_ext (λ c.
      is a b c
      ∙ ap (λ j. cond (eqb a k && (eqb b q && eqb c t)) false (j a b c)) so_far
      ∙ joined_first (eqb a k) (ltb a k) (eqb b q && eqb c t) (f a b c)
      ∙ ap (λ x. cond (x && (eqb b q && eqb c t)) false (f a b c)) (next a k))))

  pub owners_all : (q t k : ℕ) → 128 ≤ k → owners_out q t k f ≡ no_pair q t f
  unfolding owners_out no_pair
  owners_all q t k all =
      fun_ext (λ a. fun_ext (λ b. fun_ext (λ c. ⊎_elim
      (λ (below : a < 128). ap (λ x. cond (x && (eqb b q && eqb c t)) false (f a b c)) (lt-ltb a k (omega arith)))
      (λ (past : 128 ≤ a).
      let none = outside a b c (and_left (ltb a 128) _ (le-ltb a 128 past)) in
      ap (cond (ltb a k && (eqb b q && eqb c t)) false) none ∙ out_of_none _ ∙ sym (ap (cond (eqb b q && eqb c t) false) none ∙ out_of_none _))
      (cases_lt a 128))))
