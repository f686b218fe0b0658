-- The rounds of `reach`: what each keeps true, and that they come to an end.
use Rattle.std.proofs.Common.{◌≡◌, ℕ, zero, suc, ◌<◌, ◌≤◌, Bool, true, false, cond, ◌||◌, ◌⊎◌, Decides, sym, refl, ap, ◌∙◌, inl, inr, arith}
use mathlib.Core.Path.{fun_ext}
use mathlib.Core.Bool.{or-false}
use Rattle.std.proofs.lemmas.Bool.{cases_Bool, both_ways, or_cases, or_left, or_right, true≢false}
use Rattle.std.proofs.lemmas.Bool.Decides.{same_from_decides}
use Rattle.bits.specs.Sets.{none, either, Within}
use Rattle.vocabulary.specs.Tables.{some_below}
use Rattle.vocabulary.proofs.Some.{some_is, some_from}
use Rattle.hierarchy.specs.Inheritance.{Pairs, Bounded}
use Rattle.hierarchy.specs.Chains.{Above, same, step, Acyclic}
use Rattle.hierarchy.specs.Reach.{juniors_of, reach_of}
use Rattle.hierarchy.specs.Laws.{Reached}
use Rattle.hierarchy.proofs.Juniors.{junior_is, junior_from}
use Rattle.hierarchy.proofs.Steps.{steps, few_steps}
use Rattle.hierarchy.proofs.Reaching.{reach_sound, reach_complete, reach_none}

-- what is found so far and what the frontier reaches are together the reach of the set
pub record Going (pairs : Pairs) (set frontier all : ℕ → Bool) : Type 0 where
  pub rest : (r : ℕ) → reach_of pairs set r ≡ (all r || reach_of pairs frontier r)
  pub found : Within frontier all
  pub inside : (r : ℕ) → frontier r ≡ true → r < 64

module _ (pairs : Pairs) (bounded : Bounded pairs) (ac : Acyclic pairs) where
  reach_decides : (set : ℕ → Bool) (r : ℕ) → Decides (reach_of pairs set r) (Reached pairs set r)
  reach_decides set r = (reach_sound pairs set r, reach_complete pairs bounded ac set r)

  -- to reach is to be in the set, or to be reached from its juniors
  reach_step : (set : ℕ → Bool) (r : ℕ) → reach_of pairs set r ≡ (set r || reach_of pairs (juniors_of pairs set) r)
  reach_step set r =
      same_from_decides (reach_of pairs set r) (set r || reach_of pairs (juniors_of pairs set) r) (reach_decides set r) (down, up)
    where
      down : (set r || reach_of pairs (juniors_of pairs set) r) ≡ true → Reached pairs set r
      down e = elim (or_cases (set r) (reach_of pairs (juniors_of pairs set) r) e) [
        | inl here ↦ (r, here, same)
        | inr below ↦
            let w = reach_sound pairs (juniors_of pairs set) r below in
            let j = junior_is pairs set w.0 w.1 in
            (j.0, j.2, step j.3 w.2)
      ]

      up_from : (a : ℕ) → set a ≡ true → Above pairs a r → (set r || reach_of pairs (juniors_of pairs set) r) ≡ true
      up_from a here same = or_left (set a) (reach_of pairs (juniors_of pairs set) a) here
      up_from a here (step {m = m} e w) =
          or_right (set r) (reach_of pairs (juniors_of pairs set) r)
          (reach_complete pairs bounded ac (juniors_of pairs set) r (m, junior_from pairs set a m (bounded a m e).0 here e, w))

      up : Reached pairs set r → (set r || reach_of pairs (juniors_of pairs set) r) ≡ true
      up w = up_from w.0 w.1 w.2

  pub going_start : (set : ℕ → Bool) → ((r : ℕ) → set r ≡ true → r < 64) → Going pairs set set set
  going_start set inside = record {
    rest = λ r. absorbed (set r) (reach_of pairs set r) (λ here. reach_complete pairs bounded ac set r (r, here, same));
    found = λ r here. here;
    inside = inside;
  }
    where
      absorbed : (x y : Bool) → (x ≡ true → y ≡ true) → y ≡ (x || y)
      absorbed true y f = f refl
      absorbed false y f = refl

  pub going_more : (set f all f' all' : ℕ → Bool) → Going pairs set f all → f' ≡ juniors_of pairs f → all' ≡ either all f' → Going pairs set f' all'
  going_more set f all f' all' g next join = record {
    rest = λ r.
        g.rest r
        ∙ ap (λ v. all r || v) (reach_step f r ∙ ap (λ p. f r || reach_of pairs p r) (sym next))
        ∙ moved (all r) (f r) (f' r) (reach_of pairs f' r) (g.found r) (λ here. reach_complete pairs bounded ac f' r (r, here, same))
        ∙ ap (λ p. p r || reach_of pairs f' r) (sym join);
    found = λ r here. ap (λ p. p r) join ∙ or_right (all r) (f' r) here;
    inside = λ r here. let j = junior_is pairs f r (ap (λ p. p r) (sym next) ∙ here) in (bounded j.0 r j.3).1;
  }
    where
      moved : (x y z w : Bool) → (y ≡ true → x ≡ true) → (z ≡ true → w ≡ true) → (x || (y || w)) ≡ ((x || z) || w)
      moved true y z w f g = refl
      moved false true z w f g = absurd (true≢false (sym (f refl)))
      moved false false true w f g = g refl
      moved false false false w f g = refl

  pub going_done : (set f all : ℕ → Bool) → Going pairs set f all → f ≡ none → all ≡ reach_of pairs set
  going_done set f all g empty =
      fun_ext (λ r. sym (or-false (all r)) ∙ ap (λ p. all r || p r) (sym (reach_none pairs)) ∙ ap (λ p. all r || reach_of pairs p r) (sym empty) ∙ sym (g.rest r))

-- for how many rounds, of at most n, some role is left
unfoldable pub rounds_left : Pairs → ℕ → (ℕ → Bool) → ℕ
rounds_left pairs zero set = 0
rounds_left pairs (suc n) set = cond (some_below 64 set) (suc (rounds_left pairs n (juniors_of pairs set))) 0

some_left : (f : ℕ → Bool) → ((r : ℕ) → f r ≡ true → r < 64) → (f ≡ none → ⊥) → some_below 64 f ≡ true
some_left f inside some =
    elim (cases_Bool (some_below 64 f)) [
      | inl e ↦ e
      | inr e ↦ absurd (some (fun_ext (λ r. elim (cases_Bool (f r)) [ inl here ↦ absurd (both_ways _ e (some_from 64 f r (inside r here) here)) | inr empty ↦ empty ])))
    ]

module _ (pairs : Pairs) where
  -- a round more adds nothing, or there is a way down of that many steps
  longer : (n : ℕ) (set : ℕ → Bool) → (rounds_left pairs (suc n) set ≤ rounds_left pairs n set) ⊎ ((a : ℕ) × (d : ℕ) × (w : Above pairs a d) × (set a ≡ true) × (steps w ≡ n))
  unfolding rounds_left steps
  longer zero set =
      elim (cases_Bool (some_below 64 set)) [
        | inl e ↦ let s = some_is 64 set e in inr (s.0, s.0, same, s.2, refl)
        | inr e ↦ inl (rw e (omega arith))
      ]
  longer (suc n) set =
      elim (cases_Bool (some_below 64 set)) [
        | inl e ↦ elim (longer n (juniors_of pairs set)) [
          | inl l ↦ inl (rw e (omega arith))
          | inr w ↦ let j = junior_is pairs set w.0 w.3 in inr (j.0, w.1, step j.3 w.2, j.2, ap suc w.4)
        ]
        | inr e ↦ inl (rw e (omega arith))
      ]

  pub rounds_fall : Bounded pairs → Acyclic pairs → (f f' : ℕ → Bool) → f' ≡ juniors_of pairs f → ((r : ℕ) → f r ≡ true → r < 64) → (f ≡ none → ⊥) → rounds_left pairs 65 f' < rounds_left pairs 65 f
  unfolding rounds_left steps
  rounds_fall bounded ac f f' next inside some =
      let e = some_left f inside some in
      let left : rounds_left pairs 65 f' ≡ rounds_left pairs 65 (juniors_of pairs f) = ap (rounds_left pairs 65) next in
      let now : rounds_left pairs 65 f ≡ suc (rounds_left pairs 64 (juniors_of pairs f)) = ap (λ (t : Bool). cond t (suc (rounds_left pairs 64 (juniors_of pairs f))) 0) e in
      elim (longer 64 (juniors_of pairs f)) [
        | inl l ↦ omega arith
        | inr w ↦
            let j = junior_is pairs f w.0 w.3 in
            let few : suc (steps w.2) < 65 = few_steps bounded ac (step j.3 w.2) in
            absurd (omega (arith, w.4))
      ]
