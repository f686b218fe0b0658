-- One set of roles within another, as a test and as a fact.
use Rattle.std.proofs.Common.{◌≡◌, ℕ, ◌<◌, Bool, true, false, not, ◌&&◌, Decides, refl, ap, ◌∙◌, inl, inr}
use Rattle.std.proofs.lemmas.Bool.{cases_Bool, both_ways, eqb-true, eq-eqb, and_parts, and_from, not-true, not-false, not_from_false}
use Rattle.std.proofs.lemmas.Bool.Decides.{same_from_decides}
use Rattle.bits.specs.Sets.{Within}
use Rattle.vocabulary.specs.Tables.{only, some_below}
use Rattle.vocabulary.proofs.Some.{some_is, some_from}
use Rattle.hierarchy.specs.Reach.{all_in}

pub all_in_is : (p q : ℕ → Bool) → all_in p q ≡ true → (r : ℕ) → r < 64 → p r ≡ true → q r ≡ true
unfolding all_in
all_in_is p q e r below here =
    elim (cases_Bool (q r)) [
      | inl there ↦ there
      | inr missing ↦
          let outside = and_from (p r) (not (q r)) here (not_from_false (q r) missing) in
          absurd (both_ways _ (not-true _ e) (some_from 64 (λ k. p k && not (q k)) r below outside))
    ]

pub all_in_from : (p q : ℕ → Bool) → ((r : ℕ) → p r ≡ true → q r ≡ true) → all_in p q ≡ true
unfolding all_in
all_in_from p q within =
    elim (cases_Bool (some_below 64 (λ k. p k && not (q k)))) [
      | inl e ↦
          let w = some_is 64 (λ k. p k && not (q k)) e in
          let h = and_parts (p w.0) (not (q w.0)) w.2 in
          absurd (both_ways (q w.0) (not-true _ h.1) (within w.0 h.0))
      | inr e ↦ not_from_false _ e
    ]

-- where not all are in, one is missing
pub all_in_not : (p q : ℕ → Bool) → all_in p q ≡ false → (r : ℕ) × (p r ≡ true) × (q r ≡ false)
unfolding all_in
all_in_not p q e =
    let w = some_is 64 (λ k. p k && not (q k)) (not-false _ e) in
    let h = and_parts (p w.0) (not (q w.0)) w.2 in
    (w.0, h.0, not-true _ h.1)

pub all_in_only : (q : ℕ → Bool) (r : ℕ) → r < 64 → all_in (only r) q ≡ q r
all_in_only q r below =
    same_from_decides {P = q r ≡ true} (all_in (only r) q) (q r)
    ((λ e. all_in_is (only r) q e r below (eq-eqb r r refl)), (λ e. all_in_from (only r) q (λ k h. ap q (eqb-true k r h) ∙ e)))
    ((λ e. e), (λ e. e))

pub all_in_decided : (p q : ℕ → Bool) (b : Bool) → ((r : ℕ) → p r ≡ true → r < 64) → Decides b (Within p q) → b ≡ all_in p q
all_in_decided p q b inside d =
    same_from_decides {P = Within p q} b (all_in p q) d
    ((λ e r h. all_in_is p q e r (inside r h) h), (λ within. all_in_from p q within))
