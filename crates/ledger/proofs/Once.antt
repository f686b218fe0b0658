-- A permit that is drawn and closed at once.
use Rattle.std.proofs.Common.{◌≡◌, ℕ, ◌+◌, ◌<◌, true, eqb, List, [], ◌∷◌, map, is_some, Some, None, count_by, Option, refl, ap, ◌∙◌, inl, inr, arith}
use Rattle.std.proofs.lemmas.Bool.{cases_Bool, eq-eqb}
use Rattle.bits.specs.Tables.{one}
use Rattle.vocabulary.proofs.Puts.{put_here}
use Rattle.ledger.specs.Places.{meets, cleared, placed, usage_in, distinct, permits_of}
use Rattle.ledger.specs.States.{LedgerState, opens, drawn, closed, at_once, Sound}
use Rattle.ledger.specs.declared.place.Closing.{Closing}
use Rattle.ledger.specs.declared.place.Closing.TheVariants.{Entry, HandingBack, Lapse}
use Rattle.ledger.specs.declared.place.Place.{Place}
use Rattle.ledger.specs.declared.place.Place.TheVariants.{Empty, Open}
use Rattle.ledger.specs.declared.place.Use.{Use}
use Rattle.ledger.specs.declared.place.Which.TheVariants.{Serial}
use Rattle.ledger.proofs.Closings.{distinct_rest, count_serial, cleared_none, same_state}
use Rattle.ledger.proofs.Draws.{Room, absent, room_next, placed_usage, placed_distinct}

-- the place that took the permit is empty again
taken_back : (n : ℕ) (u : Use) (ps : List Place) → distinct ps ≡ true → Room ps → usage_in ps n ≡ None → map (cleared (permits_of (Serial n))) (placed n u ps) ≡ ps
taken_back n u [] d room e = refl
taken_back n u (Empty ∷ ps) d room e =
    let itself : eqb n n ≡ true = eq-eqb n n refl in
    rw itself (ap (λ (qs : List Place). Empty ∷ qs) (cleared_none (permits_of (Serial n)) ps (count_serial n ps d ∙ ap (λ (o : Option Use). one (is_some o)) e)))
taken_back n u (Open m v ∷ ps) d room e =
    elim (cases_Bool (eqb n m)) [
      | inl same ↦ let z = rw same at e in cc
      | inr other ↦ rw other (ap (λ (qs : List Place). Open m v ∷ qs) (taken_back n u ps (distinct_rest m v ps d) (room_next m v ps room) (rw other at e)))
    ]

module _ (u : Use) (s : LedgerState) (sound : Sound s) (few : opens s < 8) where
  room : Room s.places
  room = omega (arith, sound.eight)

  new : usage_in s.places (s.issued + 1) ≡ None
  new = absent s.issued (s.issued + 1) s.places sound.within (inr (omega arith))

  pub drawn_usage : usage_in (drawn u s).places (s.issued + 1) ≡ Some u
  drawn_usage = ap (λ (f : ℕ → Option Use). f (s.issued + 1)) (placed_usage (s.issued + 1) u s.places room new) ∙ put_here (s.issued + 1) (usage_in s.places) (Some u)

  back : map (cleared (permits_of (Serial (s.issued + 1)))) (drawn u s).places ≡ s.places
  back = taken_back (s.issued + 1) u s.places sound.apart room new

  single : count_by (meets (permits_of (Serial (s.issued + 1)))) (drawn u s).places ≡ 1
  single =
      count_serial (s.issued + 1) (drawn u s).places (placed_distinct s.issued u s.places sound.within sound.apart)
      ∙ ap (λ (o : Option Use). one (is_some o)) drawn_usage

  pub closed_at_once : (c : Closing) → closed c (permits_of (Serial (s.issued + 1))) (drawn u s) ≡ at_once c s
  closed_at_once Entry = same_state (closed Entry (permits_of (Serial (s.issued + 1))) (drawn u s)) (at_once Entry s) back refl (ap (λ (n : ℕ). s.entered + n) single) refl refl
  closed_at_once HandingBack = same_state (closed HandingBack (permits_of (Serial (s.issued + 1))) (drawn u s)) (at_once HandingBack s) back refl refl (ap (λ (n : ℕ). s.handed_back + n) single) refl
  closed_at_once Lapse = same_state (closed Lapse (permits_of (Serial (s.issued + 1))) (drawn u s)) (at_once Lapse s) back refl refl refl (ap (λ (n : ℕ). s.lapsed + n) single)
