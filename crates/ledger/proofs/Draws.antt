-- What is left of the places when a permit is drawn.
use Rattle.std.proofs.Common.{◌≡◌, ℕ, suc, ◌+◌, ◌<◌, ◌≤◌, true, false, ◌&&◌, eqb, ltb, leb, ◌⊎◌, List, [], ◌∷◌, length, Some, None, count_by, sym, refl, ap, ◌∙◌, inl, inr, arith}
use mathlib.Core.Path.{fun_ext}
use Rattle.std.proofs.lemmas.Bool.{cases_Bool, and_parts, and_from, ltb-true, leb-true, lt-ltb, le-leb, eq-eqb, ne_eqb, eqb-true}
use Rattle.bits.specs.Tables.{put}
use Rattle.ledger.specs.Places.{is_open, placed, usage_in, inside, distinct}
use Rattle.ledger.specs.declared.place.Place.{Place}
use Rattle.ledger.specs.declared.place.Place.TheVariants.{Empty, Open}
use Rattle.ledger.specs.declared.place.Use.{Use}
use Rattle.ledger.proofs.Closings.{count_cons, distinct_first, distinct_rest, distinct_from}

-- some place is empty
abbrev pub Room : List Place → Type 0
Room ps = count_by is_open ps < length ps

pub room_next : (m : ℕ) (v : Use) (ps : List Place) → Room (Open m v ∷ ps) → Room ps
room_next m v ps room = omega (arith, count_cons is_open (Open m v) ps)

-- what holds of an open place in front holds of its serial and of the places behind it
module _ (n m : ℕ) (v : Use) (ps : List Place) (e : inside n (Open m v ∷ ps) ≡ true) where
  above : (ltb 0 m ≡ true) × ((leb m n && inside n ps) ≡ true)
  above = and_parts (ltb 0 m) (leb m n && inside n ps) e

  pub inside_least : 0 < m
  inside_least = ltb-true 0 m above.0

  pub inside_most : m ≤ n
  inside_most = leb-true m n (and_parts (leb m n) (inside n ps) above.1).0

  pub inside_rest : inside n ps ≡ true
  inside_rest = (and_parts (leb m n) (inside n ps) above.1).1

pub inside_from : (n m : ℕ) (v : Use) (ps : List Place) → 0 < m → m ≤ n → inside n ps ≡ true → inside n (Open m v ∷ ps) ≡ true
inside_from n m v ps low high rest = and_from (ltb 0 m) (leb m n && inside n ps) (lt-ltb 0 m low) (and_from (leb m n) (inside n ps) (le-leb m n high) rest)

inside_more : (n : ℕ) (ps : List Place) → inside n ps ≡ true → inside (n + 1) ps ≡ true
inside_more n [] e = refl
inside_more n (Empty ∷ ps) e = inside_more n ps e
inside_more n (Open m v ∷ ps) e =
    inside_from (n + 1) m v ps (inside_least n m v ps e) (omega (arith, inside_most n m v ps e)) (inside_more n ps (inside_rest n m v ps e))

-- a serial that was never issued is not open, and neither is 0
pub absent : (n k : ℕ) (ps : List Place) → inside n ps ≡ true → (k ≡ 0) ⊎ (n < k) → usage_in ps k ≡ None
absent n k [] e out = refl
absent n k (Empty ∷ ps) e out = absent n k ps e out
absent n k (Open m v ∷ ps) e out =
    let rest = absent n k ps (inside_rest n m v ps e) out in
    let low = inside_least n m v ps e in
    let high = inside_most n m v ps e in
    let other : eqb k m ≡ false = ne_eqb k m (λ same. elim out [ inl z ↦ omega arith | inr o ↦ omega arith ]) in
    rw other rest

module _ (n : ℕ) (u : Use) where
  pub placed_length : (ps : List Place) → length (placed n u ps) ≡ length ps
  placed_length [] = refl
  placed_length (Empty ∷ ps) = refl
  placed_length (Open m v ∷ ps) = ap suc (placed_length ps)

  pub placed_opens : (ps : List Place) → Room ps → count_by is_open (placed n u ps) ≡ count_by is_open ps + 1
  placed_opens [] room = absurd (omega arith)
  placed_opens (Empty ∷ ps) room = omega (arith, count_cons is_open (Open n u) ps, count_cons is_open Empty ps)
  placed_opens (Open m v ∷ ps) room =
      omega (arith, count_cons is_open (Open m v) (placed n u ps), count_cons is_open (Open m v) ps, placed_opens ps (room_next m v ps room))

  -- the serial is open for its use, and every other as before
  placed_at : (ps : List Place) → Room ps → usage_in ps n ≡ None → (k : ℕ) → usage_in (placed n u ps) k ≡ put n (Some u) (usage_in ps) k
  placed_at [] room new k = absurd (omega arith)
  placed_at (Empty ∷ ps) room new k = refl
  placed_at (Open m v ∷ ps) room new k = elim (cases_Bool (eqb n m)) [
    | inl same ↦ let z = rw same at new in cc
    | inr other ↦
        let rest = placed_at ps (room_next m v ps room) (rw other at new) k in
        elim (cases_Bool (eqb k m)) [
          | inl here ↦
              let at : k ≡ m = eqb-true k m here in
              let not_new : eqb k n ≡ false = ne_eqb k n (λ e. both n m other (sym e ∙ at)) in
              rw (here, not_new) refl
          | inr there ↦ rw there rest
        ]
  ]
    where
      both : (a b : ℕ) → eqb a b ≡ false → a ≡ b → ⊥
      both a b no_eq e = let y = eq-eqb a b e in cc

  pub placed_usage : (ps : List Place) → Room ps → usage_in ps n ≡ None → usage_in (placed n u ps) ≡ put n (Some u) (usage_in ps)
  placed_usage ps room new = fun_ext (placed_at ps room new)

-- the permit after the last that was issued
module _ (n : ℕ) (u : Use) where
  pub placed_inside : (ps : List Place) → inside n ps ≡ true → inside (n + 1) (placed (n + 1) u ps) ≡ true
  placed_inside [] e = refl
  placed_inside (Empty ∷ ps) e = inside_from (n + 1) (n + 1) u ps (omega arith) (omega arith) (inside_more n ps e)
  placed_inside (Open m v ∷ ps) e =
      inside_from (n + 1) m v (placed (n + 1) u ps) (inside_least n m v ps e) (omega (arith, inside_most n m v ps e)) (placed_inside ps (inside_rest n m v ps e))

  -- an issued serial that is not open is not opened by the draw
  still_absent : (ps : List Place) (k : ℕ) → k ≤ n → usage_in ps k ≡ None → usage_in (placed (n + 1) u ps) k ≡ None
  still_absent [] k le e = refl
  still_absent (Empty ∷ ps) k le e = let other : eqb k (n + 1) ≡ false = ne_eqb k (n + 1) (λ s. omega arith) in rw other e
  still_absent (Open m v ∷ ps) k le e = elim (cases_Bool (eqb k m)) [
    | inl same ↦ let z = rw same at e in cc
    | inr other ↦ rw other (still_absent ps k le (rw other at e))
  ]

  pub placed_distinct : (ps : List Place) → inside n ps ≡ true → distinct ps ≡ true → distinct (placed (n + 1) u ps) ≡ true
  placed_distinct [] e d = refl
  placed_distinct (Empty ∷ ps) e d = distinct_from (n + 1) u ps (absent n (n + 1) ps e (inr (omega arith))) d
  placed_distinct (Open m v ∷ ps) e d =
      distinct_from m v (placed (n + 1) u ps)
      (still_absent ps m (inside_most n m v ps e) (distinct_first m v ps d))
      (placed_distinct ps (inside_rest n m v ps e) (distinct_rest m v ps d))
