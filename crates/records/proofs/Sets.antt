-- Laws of lists of records. Of sameness they use only that it is an equivalence.
use Rattle.std.proofs.Common.{◌≡◌, ℕ, ◌+◌, Bool, true, false, cond, not, ◌||◌, List, [], ◌∷◌, ◌++◌, length, filter, sym, refl, ap, ◌∙◌, ⊎_elim, arith}
use mathlib.Core.Path.{fun_ext}
use Rattle.std.specs.Cmp.{IsEquivalence}
use Rattle.std.proofs.lemmas.List.{length_push}
use Rattle.std.proofs.lemmas.List.Folds.{list_any-append}
use Rattle.std.proofs.lemmas.Map.Views.{any-filter_same}
use Rattle.std.proofs.lemmas.Map.Steps.{list_any_congr}
use Rattle.std.proofs.lemmas.Bool.{cases_Bool, and_parts, and_from, or_right, or_from, or_parts, not-true, not_from_false}
use Rattle.records.specs.Lists.{some, holds, apart, without}
use Rattle.records.specs.Sets.{Gains, Loses}

or_nothing : (b c : Bool) → (b || (c || false)) ≡ (b || c)
or_nothing true c = refl
or_nothing false true = refl
or_nothing false false = refl

module _ {T : Type 0} where
  pub some_push : (p : T → Bool) (xs : List T) (x : T) → some p (xs ++ x ∷ []) ≡ (some p xs || p x)
  some_push p xs x = list_any-append p xs (x ∷ []) ∙ or_nothing (some p xs) (p x)

  -- what no record passes, no kept record passes
  some_kept_false : (p q : T → Bool) (xs : List T) → some p xs ≡ false → some p (filter q xs) ≡ false
  some_kept_false p q [] none = refl
  some_kept_false p q (y ∷ ys) none =
      let parts = or_parts (p y) (some p ys) none in
      let rest = some_kept_false p q ys parts.1 in
      ⊎_elim
      (λ (e : q y ≡ true). simp e (or_from (p y) _ parts.0 rest))
      (λ (e : q y ≡ false). simp e rest)
      (cases_Bool (q y))

  module _ (equal : T → T → Bool) where
    -- a filter leaves no repeats where there were none
    pub apart_kept : (q : T → Bool) (xs : List T) → apart equal xs ≡ true → apart equal (filter q xs) ≡ true
    apart_kept q [] a = refl
    apart_kept q (y ∷ ys) a =
        let parts = and_parts (not (holds equal ys y)) (apart equal ys) a in
        let rest = apart_kept q ys parts.1 in
        let alone = some_kept_false (λ z. equal z y) q ys (not-true (holds equal ys y) parts.0) in
        ⊎_elim
        (λ (e : q y ≡ true). simp e (and_from _ _ (not_from_false _ alone) rest))
        (λ (e : q y ≡ false). simp e rest)
        (cases_Bool (q y))

    without_none : (xs : List T) (x : T) → holds equal xs x ≡ false → without equal xs x ≡ xs
    without_none [] x none = refl
    without_none (y ∷ ys) x none =
        let parts = or_parts (equal y x) (holds equal ys x) none in
        simp (parts.0, without_none ys x parts.1)

    module _ (laws : IsEquivalence equal) where
      -- what is the same as a record is held where that record is
      holds_alike : (xs : List T) (x y : T) → equal y x ≡ true → holds equal xs y ≡ holds equal xs x
      holds_alike xs x y e = turned y ∙ list_any_congr laws y x xs e ∙ sym (turned x)
        where
          turned : (z : T) → holds equal xs z ≡ some (equal z) xs
          turned z = ap (λ p. some p xs) (fun_ext (λ w. laws.symm w z))

      pub apart_push : (xs : List T) (x : T) → apart equal xs ≡ true → holds equal xs x ≡ false → apart equal (xs ++ x ∷ []) ≡ true
      apart_push [] x a new = refl
      apart_push (y ∷ ys) x a new =
          let parts = and_parts (not (holds equal ys y)) (apart equal ys) a in
          let fresh = or_parts (equal y x) (holds equal ys x) new in
          let alone : holds equal (ys ++ x ∷ []) y ≡ false =
          some_push (λ z. equal z y) ys x ∙ or_from _ _ (not-true (holds equal ys y) parts.0) (laws.symm x y ∙ fresh.0)
          in
          and_from _ _ (not_from_false _ alone) (apart_push ys x parts.1 fresh.1)

      without_push : (xs : List T) (x : T) → holds equal xs x ≡ false → without equal (xs ++ x ∷ []) x ≡ xs
      without_push [] x none = simp (laws.refl x)
      without_push (y ∷ ys) x none =
          let parts = or_parts (equal y x) (holds equal ys x) none in
          simp (parts.0, without_push ys x parts.1)

      pub gains : (xs : List T) (x : T) → holds equal xs x ≡ false → Gains equal xs (xs ++ x ∷ []) x
      gains xs x new =
          record {
            found = some_push (λ y. equal y x) xs x ∙ or_right _ _ (laws.refl x);
            others = λ z other. some_push (λ y. equal y z) xs x ∙ ap (λ b. holds equal xs z || b) other ∙ or_no (holds equal xs z);
            undone = without_push xs x new;
            one_more = length_push xs x;
          }
        where
          or_no : (b : Bool) → (b || false) ≡ b
          or_no true = refl
          or_no false = refl

      -- in a list without repeats one record is the same as x where x is held, and none is where it is not
      pub taken : (xs : List T) (x : T) → apart equal xs ≡ true → length (without equal xs x) + cond (holds equal xs x) 1 0 ≡ length xs
      taken [] x a = refl
      taken (y ∷ ys) x a =
          let parts = and_parts (not (holds equal ys y)) (apart equal ys) a in
          let rest = taken ys x parts.1 in
          ⊎_elim
          (λ (e : equal y x ≡ true).
          let none : holds equal ys x ≡ false = sym (holds_alike ys x y e) ∙ not-true (holds equal ys y) parts.0 in
          let as_many : length (without equal ys x) ≡ length ys = ap length (without_none ys x none) in
          simp e (omega arith))
          (λ (e : equal y x ≡ false). simp e (omega arith))
          (cases_Bool (equal y x))

      pub loses : (xs : List T) (x : T) → apart equal xs ≡ true → holds equal xs x ≡ true → Loses equal xs (without equal xs x) x
      loses xs x a held =
          record {
            gone = any-filter_same (λ y. equal y x) (λ y. not (equal y x)) false (λ y e. ap not e) xs;
            others = λ z other. any-filter_same (λ y. equal y z) (λ y. not (equal y x)) true (λ y e. ap not (unlike y z other e)) xs;
            one_less = λ _. let one : ◌≡◌ {A = ℕ} (cond (holds equal xs x) 1 0) 1 = ap (λ b. cond b 1 0) held in omega (arith, taken xs x a);
          }
        where
          unlike : (y z : T) → equal x z ≡ false → equal y z ≡ true → equal y x ≡ false
          unlike y z other e = laws.congr y z x e ∙ laws.symm z x ∙ other

      -- n are left of m: as many exactly where none was the same
      pub none_taken : (xs ys : List T) (x : T) → apart equal xs ≡ true → ys ≡ without equal xs x → length ys ≡ length xs → (holds equal xs x ≡ false) × (ys ≡ xs)
      none_taken xs ys x a is same = (none, is ∙ without_none xs x none)
        where
          none : holds equal xs x ≡ false
          none =
              ⊎_elim
              (λ (t : holds equal xs x ≡ true). let one : ◌≡◌ {A = ℕ} (cond (holds equal xs x) 1 0) 1 = ap (λ b. cond b 1 0) t in absurd (omega (arith, taken xs x a, ap length is)))
              (λ f. f)
              (cases_Bool (holds equal xs x))

      pub one_taken : (xs ys : List T) (x : T) → ys ≡ without equal xs x → (length ys ≡ length xs → ⊥) → holds equal xs x ≡ true
      one_taken xs ys x is ne = ⊎_elim (λ t. t) (λ f. absurd (ne (ap length (is ∙ without_none xs x f)))) (cases_Bool (holds equal xs x))
