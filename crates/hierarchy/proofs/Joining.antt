-- What one pair more does to a hierarchy: to its chains, and to what every hierarchy has to be.
use Rattle.std.proofs.Common.{◌≡◌, ℕ, ◌<◌, true, sym, subst, inl, inr, arith}
use Rattle.hierarchy.specs.Inheritance.{Pairs, Bounded}
use Rattle.hierarchy.specs.Chains.{Above, step, Acyclic}
use Rattle.hierarchy.specs.Edits.{put_pair}
use Rattle.hierarchy.specs.Laws.{Joined}
use Rattle.hierarchy.proofs.Chains.{above_trans}
use Rattle.hierarchy.proofs.Circles.{above_more, above_cases, put_cases, put_keeps, put_there, acyclic_put}

module _ (pairs : Pairs) (a d : ℕ) (new : Pairs) (is : new ≡ put_pair a d true pairs) where
  pub joined_acyclic : Acyclic pairs → (Above pairs d a → ⊥) → Acyclic new
  joined_acyclic ac free = subst Acyclic (sym is) (acyclic_put pairs a d ac free)

  pub joined_bounded : a < 64 → d < 64 → Bounded pairs → Bounded new
  joined_bounded senior junior bounded =
      subst Bounded (sym is)
      (λ x y e. elim (put_cases pairs a d x y e) [ inl old ↦ bounded x y old | inr here ↦ (omega arith, omega arith) ])

  pub joined_above : Joined pairs a d new
  joined_above =
      subst (Joined pairs a d) (sym is)
      (λ x y. (
        above_cases pairs a d x y,
        (λ t. elim t [ inl old ↦ keep x y old | inr through ↦ above_trans (keep x a through.0) (step (put_there pairs a d) (keep d y through.1)) ]),
      ))
    where
      keep : (x y : ℕ) → Above pairs x y → Above (put_pair a d true pairs) x y
      keep = above_more pairs (put_pair a d true pairs) (put_keeps pairs a d)
