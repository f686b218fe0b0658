-- The reach that is computed is what is reached by chains.
use Rattle.std.proofs.Common.{◌≡◌, ℕ, zero, suc, ◌<◌, Bool, true, false, cond, ◌&&◌, eqb, ltb, Decides, sym, refl, ap, subst, inl, inr, arith}
use mathlib.Core.Path.{fun_ext}
use Rattle.std.proofs.lemmas.Bool.{cases_Bool, eqb-true, eq-eqb, or_cases, or_left, or_right, true≢false}
use Rattle.bits.specs.Sets.{none}
use Rattle.bits.specs.Tables.{put}
use Rattle.vocabulary.specs.Tables.{only}
use Rattle.hierarchy.specs.Inheritance.{Pairs, Bounded}
use Rattle.hierarchy.specs.Chains.{Above, same, step, Acyclic}
use Rattle.hierarchy.specs.Reach.{juniors_of, within_steps, reach_of}
use Rattle.hierarchy.specs.Laws.{Reached}
use Rattle.hierarchy.proofs.Juniors.{junior_is, junior_from}
use Rattle.hierarchy.proofs.Steps.{steps, few_steps}

within_sound : (pairs : Pairs) (n : ℕ) (set : ℕ → Bool) (r : ℕ) → within_steps pairs n set r ≡ true → Reached pairs set r
unfolding within_steps
within_sound pairs zero set r e = absurd (true≢false (sym e))
within_sound pairs (suc n) set r e =
    elim (or_cases (set r) (within_steps pairs n (juniors_of pairs set) r) e) [
      | inl here ↦ (r, here, same)
      | inr below ↦
          let s = within_sound pairs n (juniors_of pairs set) r below in
          let j = junior_is pairs set s.0 s.1 in
          (j.0, j.2, step j.3 s.2)
    ]

within_complete : (pairs : Pairs) → Bounded pairs → (n : ℕ) (set : ℕ → Bool) (a r : ℕ) → set a ≡ true → (w : Above pairs a r) → steps w < n → within_steps pairs n set r ≡ true
unfolding within_steps steps
within_complete pairs bounded zero set a r here w l = absurd (omega arith)
within_complete pairs bounded (suc n) set a r here same l = or_left (set r) (within_steps pairs n (juniors_of pairs set) r) here
within_complete pairs bounded (suc n) set a r here (step {m = m} e w) l =
    or_right (set r) (within_steps pairs n (juniors_of pairs set) r)
    (within_complete pairs bounded n (juniors_of pairs set) m r (junior_from pairs set a m (bounded a m e).0 here e) w (omega arith))

pub reach_sound : (pairs : Pairs) (set : ℕ → Bool) (r : ℕ) → reach_of pairs set r ≡ true → Reached pairs set r
unfolding reach_of
reach_sound pairs set r e = within_sound pairs 65 set r e

pub reach_complete : (pairs : Pairs) → Bounded pairs → Acyclic pairs → (set : ℕ → Bool) (r : ℕ) → Reached pairs set r → reach_of pairs set r ≡ true
unfolding reach_of
reach_complete pairs bounded ac set r w = within_complete pairs bounded 65 set w.0 r w.1 w.2 (few_steps bounded ac w.2)

pub reach_none : (pairs : Pairs) → reach_of pairs none ≡ none
reach_none pairs = fun_ext (λ r. elim (cases_Bool (reach_of pairs none r)) [
  | inl e ↦ absurd (true≢false (sym (reach_sound pairs none r e).1))
  | inr e ↦ e
])

-- one role is above or equal to what it reaches alone
pub reach_alone : (pairs : Pairs) → Bounded pairs → Acyclic pairs → (a d : ℕ) → Decides (reach_of pairs (only a) d) (Above pairs a d)
reach_alone pairs bounded ac a d = (
  (λ e. let w = reach_sound pairs (only a) d e in subst (λ (x : ℕ). Above pairs x d) (eqb-true w.0 a w.1) w.2),
  (λ w. reach_complete pairs bounded ac (only a) d (a, eq-eqb a a refl, w)),
)

-- the reach of a set that holds the role a, if a is in range
pub reach_with : (pairs : Pairs) (a d : ℕ) → reach_of pairs (cond (ltb a 64) (put a true none) none) d ≡ (ltb a 64 && reach_of pairs (only a) d)
reach_with pairs a d =
    elim (cases_Bool (ltb a 64)) [
      | inl e ↦ simp e (ap (λ p. reach_of pairs p d) (fun_ext (λ k. alone (eqb k a))))
      | inr e ↦ simp e (ap (λ p. p d) (reach_none pairs))
    ]
  where
    alone : (t : Bool) → cond t true false ≡ t
    alone true = refl
    alone false = refl
