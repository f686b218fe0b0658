-- One step of a walk over the places.
use Rattle.std.proofs.Common.{◌≡◌, ℕ, zero, suc, ◌+◌, ◌-◌, ◌<◌, true, false, not, None, List, [], ◌∷◌, ◌++◌, map, length, get_or, take, drop, set, count_by, sym, refl, ap, ◌∙◌, arith, length-take-le, get_or-drop}
use Rattle.std.proofs.lemmas.List.{get_or-append_right, get_or_default, length-map}
use Rattle.std.specs.List.{position_from}
use Rattle.std.proofs.lemmas.List.Sums.{count_by_more_yes, count_by_more_no}
use Rattle.std.proofs.lemmas.List.Edits.{map_over_more}
use Rattle.ledger.specs.Places.{Permits, is_open, place_after, meets, cleared, placed}
use Rattle.ledger.specs.declared.place.Event.TheVariants.{Draw}
use Rattle.ledger.specs.declared.place.Place.{Place}
use Rattle.ledger.specs.declared.place.Place.TheVariants.{Empty, Open}
use Rattle.ledger.specs.declared.place.Use.{Use}

-- the first empty place takes the permit, if there is one
module _ (n : ℕ) (u : Use) where
  pub drawn_at : (p : Place) → not (is_open p) ≡ true → place_after p (Draw n u) ≡ Open n u
  drawn_at Empty e = refl
  drawn_at (Open m v) e = cc

  pub placed_first : (ps : List Place) (i : ℕ) → i < length ps → not (is_open (get_or ps i Empty)) ≡ true → ((k : ℕ) → k < i → not (is_open (get_or ps k Empty)) ≡ false) → set ps i (Open n u) ≡ placed n u ps
  placed_first [] i lt e before = absurd (omega arith)
  placed_first (Empty ∷ ps) zero lt e before = refl
  placed_first (Empty ∷ ps) (suc i) lt e before = let first = before 0 (omega arith) in cc
  placed_first (Open m v ∷ ps) zero lt e before = cc
  placed_first (Open m v ∷ ps) (suc i) lt e before = ap (λ (qs : List Place). Open m v ∷ qs) (placed_first ps i (omega arith) e (λ k le. before (suc k) (omega arith)))

  pub placed_none : (ps : List Place) (i : ℕ) → position_from (λ p. not (is_open p)) i ps ≡ None → placed n u ps ≡ ps
  placed_none [] i e = refl
  placed_none (Empty ∷ ps) i e = cc
  placed_none (Open m v ∷ ps) i e = ap (λ (qs : List Place). Open m v ∷ qs) (placed_none ps (i + 1) e)

-- the places before i are cleared, and those from i on are as they were
module _ (these : Permits) (ps qs : List Place) (i : ℕ) (lt : i < length ps) (long : length qs ≡ length ps) (so_far : qs ≡ map (cleared these) (take i ps) ++ drop i ps) where
  untouched : get_or qs i Empty ≡ get_or ps i Empty
  untouched =
      ap (λ l. get_or l i Empty) so_far
      ∙ get_or-append_right (map (cleared these) (take i ps)) (drop i ps) i i Empty (length-map (take i ps) (cleared these) ∙ length-take-le i ps (omega arith)) (omega arith)
      ∙ get_or-drop i ps (i - i) Empty
      ∙ ap (λ (k : ℕ). get_or ps k Empty) (omega arith)

  pub cleared_next : (q : Place) → q ≡ cleared these (get_or qs i Empty) → set qs i q ≡ map (cleared these) (take (i + 1) ps) ++ drop (i + 1) ps
  cleared_next q e = ap (set qs i) e ∙ map_over_more (cleared these) ps qs i (get_or qs i Empty) lt so_far (get_or_default qs i Empty (get_or qs i Empty) (omega arith))

  pub count_yes : meets these (get_or qs i Empty) ≡ true → count_by (meets these) (take (i + 1) ps) ≡ count_by (meets these) (take i ps) + 1
  count_yes h = count_by_more_yes (meets these) ps i Empty lt (ap (meets these) (sym untouched) ∙ h)

  pub count_no : meets these (get_or qs i Empty) ≡ false → count_by (meets these) (take (i + 1) ps) ≡ count_by (meets these) (take i ps)
  count_no h = count_by_more_no (meets these) ps i Empty lt (ap (meets these) (sym untouched) ∙ h)
