-- What is left of the places when some permits are closed.
use Rattle.std.proofs.Common.{◌≡◌, ℕ, ◌+◌, Bool, true, false, cond, not, ◌&&◌, eqb, ltb, leb, List, [], ◌∷◌, map, is_some, Some, None, count_by, Option, sym, refl, ap, ◌∙◌, inl, inr, arith}
use Rattle.std.proofs.lemmas.List.Sums.{sum_by-cons}
use Rattle.std.proofs.lemmas.List.{length-map}
use Rattle.std.proofs.lemmas.Bool.{cases_Bool, and_parts, and_from, eqb-true}
use Rattle.bits.specs.Tables.{one}
use Rattle.ledger.specs.Places.{Permits, is_open, meets, cleared, usage_in, inside, distinct, permits_of}
use Rattle.ledger.specs.States.{LedgerState, closed}
use Rattle.ledger.specs.declared.place.Closing.{Closing}
use Rattle.ledger.specs.declared.place.Closing.TheVariants.{Entry, HandingBack, Lapse}
use Rattle.ledger.specs.declared.place.Place.{Place}
use Rattle.ledger.specs.declared.place.Place.TheVariants.{Empty, Open}
use Rattle.ledger.specs.declared.place.Use.{Use}
use Rattle.ledger.specs.declared.place.Which.TheVariants.{Serial}

-- a place more in front of a count
pub count_cons : (p : Place → Bool) (x : Place) (xs : List Place) → count_by p (x ∷ xs) ≡ one (p x) + count_by p xs
count_cons p x xs = sum_by-cons (λ y. cond (p y) 1 0) x xs ∙ ap (λ n. n + count_by p xs) (is_one (p x))
  where
    is_one : (b : Bool) → cond {A = ℕ} b 1 0 ≡ one b
    is_one true = refl
    is_one false = refl

-- what holds of an open place in front of places with serials of their own
module _ (m : ℕ) (v : Use) (ps : List Place) (d : distinct (Open m v ∷ ps) ≡ true) where
  pub distinct_first : usage_in ps m ≡ None
  distinct_first = none (usage_in ps m) (and_parts (not (is_some (usage_in ps m))) (distinct ps) d).0
    where
      none : (o : Option Use) → not (is_some o) ≡ true → o ≡ None
      none None e = refl
      none (Some u) e = cc

  pub distinct_rest : distinct ps ≡ true
  distinct_rest = (and_parts (not (is_some (usage_in ps m))) (distinct ps) d).1

pub distinct_from : (m : ℕ) (v : Use) (ps : List Place) → usage_in ps m ≡ None → distinct ps ≡ true → distinct (Open m v ∷ ps) ≡ true
distinct_from m v ps new rest = and_from (not (is_some (usage_in ps m))) (distinct ps) (ap (λ (o : Option Use). not (is_some o)) new) rest

-- a permit that is closed was open, and the others still are
module _ (these : Permits) where
  at_one : (p : Place) → one (is_open (cleared these p)) + one (meets these p) ≡ one (is_open p)
  at_one Empty = refl
  at_one (Open n u) = elim (these n u) as (λ b. one (is_open (cond b Empty (Open n u))) + one b ≡ 1) [ true ↦ refl | false ↦ refl ]

  pub closed_opens : (ps : List Place) → count_by is_open (map (cleared these) ps) + count_by (meets these) ps ≡ count_by is_open ps
  closed_opens [] = refl
  closed_opens (p ∷ ps) =
      omega (arith, count_cons is_open (cleared these p) (map (cleared these) ps), count_cons (meets these) p ps, count_cons is_open p ps, at_one p, closed_opens ps)

  pub closed_inside : (n : ℕ) (ps : List Place) → inside n ps ≡ true → inside n (map (cleared these) ps) ≡ true
  closed_inside n [] e = refl
  closed_inside n (Empty ∷ ps) e = closed_inside n ps e
  closed_inside n (Open m v ∷ ps) e =
      let low = and_parts (ltb 0 m) (leb m n && inside n ps) e in
      let high = and_parts (leb m n) (inside n ps) low.1 in
      let rest = closed_inside n ps high.1 in
      elim (these m v) as (λ b. inside n (cond b Empty (Open m v) ∷ map (cleared these) ps) ≡ true) [
        | true ↦ rest
        | false ↦ and_from (ltb 0 m) (leb m n && inside n (map (cleared these) ps)) low.0 (and_from (leb m n) (inside n (map (cleared these) ps)) high.0 rest)
      ]

  -- a serial that is not open is not opened by a closing
  pub closed_absent : (n : ℕ) (ps : List Place) → usage_in ps n ≡ None → usage_in (map (cleared these) ps) n ≡ None
  closed_absent n [] e = refl
  closed_absent n (Empty ∷ ps) e = closed_absent n ps e
  closed_absent n (Open m v ∷ ps) e = elim (cases_Bool (eqb n m)) [
    | inl same ↦ let z = rw same at e in cc
    | inr other ↦
        let rest = closed_absent n ps (rw other at e) in
        elim (these m v) as (λ b. usage_in (cond b Empty (Open m v) ∷ map (cleared these) ps) n ≡ None) [ true ↦ rest | false ↦ rw other rest ]
  ]

  pub closed_distinct : (ps : List Place) → distinct ps ≡ true → distinct (map (cleared these) ps) ≡ true
  closed_distinct [] e = refl
  closed_distinct (Empty ∷ ps) e = closed_distinct ps e
  closed_distinct (Open m v ∷ ps) e =
      let rest = closed_distinct ps (distinct_rest m v ps e) in
      elim (these m v) as (λ b. distinct (cond b Empty (Open m v) ∷ map (cleared these) ps) ≡ true) [
        | true ↦ rest
        | false ↦ distinct_from m v (map (cleared these) ps) (closed_absent m ps (distinct_first m v ps e)) rest
      ]

-- what a ledger keeps when some permits are closed
pub ruleset kept = (closed_opens, closed_inside, closed_distinct, length-map)

-- the places with a serial are one where it is open, and else none
pub count_serial : (n : ℕ) (ps : List Place) → distinct ps ≡ true → count_by (meets (permits_of (Serial n))) ps ≡ one (is_some (usage_in ps n))
count_serial n [] d = refl
count_serial n (Empty ∷ ps) d = count_cons (meets (permits_of (Serial n))) Empty ps ∙ omega (arith, count_serial n ps d)
count_serial n (Open m v ∷ ps) d =
    let rest = count_serial n ps (distinct_rest m v ps d) in
    elim (cases_Bool (eqb n m)) [
      | inl same ↦
          let gone : usage_in ps n ≡ None = ap (usage_in ps) (eqb-true n m same) ∙ distinct_first m v ps d in
          count_cons (meets (permits_of (Serial n))) (Open m v) ps ∙ rw same (ap (λ (k : ℕ). 1 + k) (rest ∙ ap (λ (o : Option Use). one (is_some o)) gone))
      | inr other ↦ count_cons (meets (permits_of (Serial n))) (Open m v) ps ∙ rw other (omega (arith, rest))
    ]

-- where none is meant, nothing changes
pub cleared_none : (these : Permits) (ps : List Place) → count_by (meets these) ps ≡ 0 → map (cleared these) ps ≡ ps
cleared_none these [] z = refl
cleared_none these (p ∷ ps) z = ap (λ (q : Place). q ∷ map (cleared these) ps) (same (meets these p) (omega (arith, more))) ∙ ap (λ (qs : List Place). p ∷ qs) (cleared_none these ps (omega (arith, more)))
  where
    more : count_by (meets these) (p ∷ ps) ≡ one (meets these p) + count_by (meets these) ps
    more = count_cons (meets these) p ps

    same : (b : Bool) → one b ≡ 0 → cond b Empty p ≡ p
    same false e = refl
    same true e = absurd (omega arith)

-- states with the same parts are the same
pub same_state : (s t : LedgerState) → s.places ≡ t.places → s.issued ≡ t.issued → s.entered ≡ t.entered → s.handed_back ≡ t.handed_back → s.lapsed ≡ t.lapsed → s ≡ t
same_state s t p i e h l = λ k. record { places = p k; issued = i k; entered = e k; handed_back = h k; lapsed = l k }

pub closed_none : (c : Closing) (these : Permits) (s : LedgerState) → count_by (meets these) s.places ≡ 0 → closed c these s ≡ s
closed_none Entry these s z = same_state (closed Entry these s) s (cleared_none these s.places z) refl (omega arith) refl refl
closed_none HandingBack these s z = same_state (closed HandingBack these s) s (cleared_none these s.places z) refl refl (omega arith) refl
closed_none Lapse these s z = same_state (closed Lapse these s) s (cleared_none these s.places z) refl refl refl (omega arith)

-- whether a serial is open is told by how many places have it
module _ (n : ℕ) (ps : List Place) (d : distinct ps ≡ true) where
  pub is_closed : count_by (meets (permits_of (Serial n))) ps ≡ 0 → is_some (usage_in ps n) ≡ false
  is_closed z = told (is_some (usage_in ps n)) (sym (count_serial n ps d) ∙ z)
    where
      told : (b : Bool) → one b ≡ 0 → b ≡ false
      told false e = refl
      told true e = absurd (omega arith)

  pub found_open : (count_by (meets (permits_of (Serial n))) ps ≡ 0 → ⊥) → is_some (usage_in ps n) ≡ true
  found_open some = told (is_some (usage_in ps n)) (λ z. some (count_serial n ps d ∙ z))
    where
      told : (b : Bool) → (one b ≡ 0 → ⊥) → b ≡ true
      told true e = refl
      told false e = absurd (e refl)
