-- What fewer pairs do to a hierarchy: to its chains, and to what every hierarchy has to be.
use Rattle.std.proofs.Common.{◌≡◌, ℕ, Bool, true, false, cond, not, ◌&&◌, ◌||◌, eqb, sym, refl, ap, ◌∙◌, inl, inr}
use Rattle.std.proofs.lemmas.Bool.{and_parts, and_from, not-true, not_from_false, cases_Bool, eqb-true}
use Rattle.hierarchy.specs.Inheritance.{Pairs, Bounded}
use Rattle.hierarchy.specs.Chains.{Above, same, step, Acyclic}
use Rattle.hierarchy.specs.Edits.{put_pair, without_role}
use Rattle.hierarchy.specs.Laws.{Avoiding, same as no_step, step as one-step, Cut}
use Rattle.hierarchy.proofs.Circles.{acyclic_fewer}

-- the old pairs that are not gone are the new ones
module _ (old : Pairs) (gone : ℕ → ℕ → Bool) (new : Pairs) (is : (x y : ℕ) → new x y ≡ (old x y && not (gone x y))) where
  kept : (x y : ℕ) → new x y ≡ true → (old x y ≡ true) × (not (gone x y) ≡ true)
  kept x y e = and_parts (old x y) (not (gone x y)) (sym (is x y) ∙ e)

  pub cut_acyclic : Acyclic old → Acyclic new
  cut_acyclic = acyclic_fewer old new (λ x y e. (kept x y e).0)

  pub cut_bounded : Bounded old → Bounded new
  cut_bounded bounded x y e = bounded x y (kept x y e).0

  to_avoiding : (x y : ℕ) → Above new x y → Avoiding old gone x y
  to_avoiding x y same = no_step
  to_avoiding x y (step {m = m} e w) = one-step (kept x m e).0 (not-true (gone x m) (kept x m e).1) (to_avoiding m y w)

  from_avoiding : (x y : ℕ) → Avoiding old gone x y → Above new x y
  from_avoiding x y no_step = same
  from_avoiding x y (one-step {m = m} e stays w) =
      step (is x m ∙ and_from (old x m) (not (gone x m)) e (not_from_false (gone x m) stays)) (from_avoiding m y w)

  pub cut_above : Cut old gone new
  cut_above x y = (to_avoiding x y, from_avoiding x y)

pub cond_not : (t v : Bool) → cond t false v ≡ (v && not t)
cond_not true true = refl
cond_not true false = refl
cond_not false true = refl
cond_not false false = refl

put_false : (pairs : Pairs) (a d x y : ℕ) → put_pair a d false pairs x y ≡ (pairs x y && not (eqb x a && eqb y d))
put_false pairs a d x y =
    elim (cases_Bool (eqb x a)) [
      | inl row ↦ simp row (ap (λ (n : ℕ). cond (eqb y d) false (pairs n y)) (sym (eqb-true x a row)) ∙ cond_not (eqb y d) (pairs x y))
      | inr other ↦ simp other (cond_not false (pairs x y))
    ]

-- one pair is gone
pub pair_gone : (pairs : Pairs) (a d : ℕ) (new : Pairs) → new ≡ put_pair a d false pairs → (x y : ℕ) → new x y ≡ (pairs x y && not (eqb x a && eqb y d))
pair_gone pairs a d new is x y = ap (λ p. p x y) is ∙ put_false pairs a d x y

-- every pair that names the role is gone
pub role_is_gone : (pairs : Pairs) (r : ℕ) (new : Pairs) → new ≡ without_role r pairs → (x y : ℕ) → new x y ≡ (pairs x y && not (eqb x r || eqb y r))
unfolding without_role
role_is_gone pairs r new is x y = ap (λ p. p x y) is
