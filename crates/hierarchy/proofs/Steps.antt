-- How many steps a way down has: among 64 roles with no circle, fewer than 65.
use Rattle.std.proofs.Common.{◌≡◌, ℕ, zero, suc, ◌<◌, sym, refl, subst, inl, inr, arith}
use Rattle.std.proofs.lemmas.Bool.{cases_lt}
use Rattle.hierarchy.specs.Inheritance.{Pairs, Bounded}
use Rattle.hierarchy.specs.Chains.{Chain, one, more, Above, same, step, Acyclic}
use Rattle.hierarchy.proofs.Pigeonhole.{pigeons}

module _ {pairs : Pairs} where
  unfoldable pub steps : {a d : ℕ} → Above pairs a d → ℕ
  steps same = 0
  steps (step e w) = suc (steps w)

  -- the role after i steps
  at : {a d : ℕ} → Above pairs a d → ℕ → ℕ
  at (same {a = a}) i = a
  at (step {a = a} e w) zero = a
  at (step e w) (suc i) = at w i

  at_lt : {a d : ℕ} → Bounded pairs → (w : Above pairs a d) (i : ℕ) → i < steps w → at w i < 64
  unfolding at steps
  at_lt bounded same i h = absurd (omega arith)
  at_lt bounded (step {a = a} {m = m} e w) zero h = (bounded a m e).0
  at_lt bounded (step e w) (suc i) h = at_lt bounded w i (omega arith)

  at_start : {a d : ℕ} (w : Above pairs a d) → at w 0 ≡ a
  unfolding at
  at_start same = refl
  at_start (step e w) = refl

  at_chain : {a d : ℕ} (w : Above pairs a d) (i j : ℕ) → i < j → j < steps w → Chain pairs (at w i) (at w j)
  unfolding at steps
  at_chain same i j h k = absurd (omega arith)
  at_chain (step e w) i zero h k = absurd (omega arith)
  at_chain (step {a = a} e w) zero (suc zero) h k = subst (λ (x : ℕ). Chain pairs a x) (sym (at_start w)) (one e)
  at_chain (step e w) zero (suc (suc j)) h k =
      more e (subst (λ (x : ℕ). Chain pairs x (at w (suc j))) (at_start w) (at_chain w zero (suc j) (omega arith) (omega arith)))
  at_chain (step e w) (suc i) (suc j) h k = at_chain w i j (omega arith) (omega arith)

  pub few_steps : {a d : ℕ} → Bounded pairs → Acyclic pairs → (w : Above pairs a d) → steps w < 65
  few_steps bounded ac w =
      elim (cases_lt (steps w) 65) [
        | inl few ↦ few
        | inr many ↦
            let p = pigeons 64 (at w) (λ i l. at_lt bounded w i (omega arith)) in
            absurd (ac (at w p.0) (subst (λ (x : ℕ). Chain pairs (at w p.0) x) (sym p.4) (at_chain w p.0 p.1 p.2 (omega arith))))
      ]
