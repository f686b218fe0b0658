-- Owner after owner is erased.
use Rattle.std.proofs.Common.{◌≡◌, ℕ, ◌+◌, ◌<◌, ◌≤◌, ap, ◌∙◌, ⊎_elim, arith}
use Rattle.std.proofs.lemmas.Bool.{both_ways, cond-true, cond-false, cases_Bool, cases_eq, cases_lt, lt-ltb, le-ltb, eq-eqb, ne_eqb, and_left}
use Rattle.register.specs.Meaning.{Register, held, in_range, no_owner, Sound}
use Rattle.register.specs.Answers.{after_erase}
use Rattle.register_laws.specs.Owners.{HoldsNothing, HoldsNothingBelow}

pub limit_kept : (m : Register) (k : ℕ) → k < 128 → (after_erase m k).limit ≡ m.limit
limit_kept m k lt = ap (λ (n : Register). n.limit) (cond-true _ _ _ (lt-ltb k 128 lt))

pub one_more : (m : Register) (k : ℕ) → k < 128 → HoldsNothingBelow k m → HoldsNothingBelow (k + 1) (after_erase m k)
unfolding no_owner
one_more m k lt none o q t below =
    ap (λ n. held n o q t) (cond-true _ _ _ (lt-ltb k 128 lt))
    ∙ ⊎_elim
    (λ (here : o ≡ k). cond-true _ _ _ (eq-eqb o k here))
    (λ other. cond-false _ _ _ (ne_eqb o k (λ e. absurd (omega arith))) ∙ none o q t (omega arith))
    (cases_eq o k)

pub all_out : (m : Register) (k : ℕ) → 128 ≤ k → Sound m → HoldsNothingBelow k m → HoldsNothing m
all_out m k all sound none o q t =
    ⊎_elim
    (λ (below : o < 128). none o q t (omega arith))
    (λ (past : 128 ≤ o).
    ⊎_elim
    (λ e. absurd (both_ways (in_range o q t) (and_left _ _ (le-ltb o 128 past)) (sound.inside o q t e)))
    (λ e. e)
    (cases_Bool (held m o q t)))
    (cases_lt o 128)
