-- The immediate juniors of a set: as a fact, and as the loop over the roles finds them.
use Rattle.std.proofs.Common.{◌≡◌, ℕ, ◌+◌, ◌<◌, Bool, true, false, ◌&&◌, ◌||◌, sym, refl, ap, ◌∙◌, add-one}
use mathlib.Core.Path.{fun_ext}
use mathlib.Core.Bool.{or-false}
use Rattle.std.proofs.lemmas.Bool.{and_parts, and_from}
use Rattle.bits.specs.Sets.{none, either}
use Rattle.vocabulary.specs.Tables.{some_below}
use Rattle.vocabulary.proofs.Some.{some_is, some_from}
use Rattle.hierarchy.specs.Inheritance.{Pairs}
use Rattle.hierarchy.specs.Reach.{juniors_of}

pub junior_is : (pairs : Pairs) (set : ℕ → Bool) (d : ℕ) → juniors_of pairs set d ≡ true → (a : ℕ) × (a < 64) × (set a ≡ true) × (pairs a d ≡ true)
unfolding juniors_of
junior_is pairs set d e =
    let s = some_is 64 (λ a. set a && pairs a d) e in
    let h = and_parts (set s.0) (pairs s.0 d) s.2 in
    (s.0, s.1, h.0, h.1)

pub junior_from : (pairs : Pairs) (set : ℕ → Bool) (a d : ℕ) → a < 64 → set a ≡ true → pairs a d ≡ true → juniors_of pairs set d ≡ true
unfolding juniors_of
junior_from pairs set a d below here e = some_from 64 (λ k. set k && pairs k d) a below (and_from (set a) (pairs a d) here e)

-- the juniors of the set's roles below n
abbrev pub juniors_so_far : Pairs → (ℕ → Bool) → ℕ → ℕ → Bool
juniors_so_far pairs set n d = some_below n (λ a. set a && pairs a d)

module _ (pairs : Pairs) (set : ℕ → Bool) where
  pub juniors_none : none ≡ juniors_so_far pairs set 0
  unfolding some_below
  juniors_none = refl

  pub juniors_all : juniors_so_far pairs set 64 ≡ juniors_of pairs set
  unfolding juniors_of
  juniors_all = refl

  one_more : (n d : ℕ) → juniors_so_far pairs set (n + 1) d ≡ (juniors_so_far pairs set n d || (set n && pairs n d))
  unfolding some_below
  one_more n d = rw add-one refl

  pub juniors_yes : (n : ℕ) → set n ≡ true → either (juniors_so_far pairs set n) (pairs n) ≡ juniors_so_far pairs set (n + 1)
  juniors_yes n e = fun_ext (λ d. ap (λ (v : Bool). juniors_so_far pairs set n d || (v && pairs n d)) (sym e) ∙ sym (one_more n d))

  pub juniors_no : (n : ℕ) → set n ≡ false → juniors_so_far pairs set n ≡ juniors_so_far pairs set (n + 1)
  juniors_no n e =
      fun_ext (λ d.
      sym (or-false (juniors_so_far pairs set n d))
      ∙ ap (λ (v : Bool). juniors_so_far pairs set n d || (v && pairs n d)) (sym e)
      ∙ sym (one_more n d))
