-- Right after a draw that was accepted its permit can be entered or handed back.
use Rattle.std.proofs.Common.{◌≡◌, ℕ, true, cond, List, [], ◌∷◌, is_some, Some, ap, ◌∙◌}
use Rattle.std.proofs.lemmas.Bool.{lt-ltb, ltb-true}
use Rattle.vocabulary.proofs.Puts.{put_here}
use Rattle.ledger.specs.Places.{usage_in}
use Rattle.ledger.specs.States.{drawn, Sound}
use Rattle.ledger.specs.declared.place.Use.{Use}
use Rattle.ledger.proofs.Once.{drawn_usage}
use Rattle.rules.specs.State.{State, Bounds, bare_state}
use Rattle.rules.specs.Views.{view}
use Rattle.rules.specs.Coverage.{covers}
use Rattle.rules.specs.Numbers.{is_owner, draw_number, covers_permit, number}
use Rattle.rules.specs.Rules.{after, next}
use Rattle.rules.specs.declared.call.Call.{Call}
use Rattle.rules.specs.declared.call.Call.TheVariants.{Draw, Enter, HandBack}
use Rattle.law.specs.Beside.{SoundTables, drawn_owner, drawn_serial, Beside}
use Rattle.law.specs.Histories.{state_after, state_of}
use Rattle.law.proofs.Accepted.{draw_passed}
use Rattle.law.proofs.Covering.{own_object, passed_covers}
use Rattle.law.proofs.Keeps.{history_as}
use Rattle.law.proofs.SoundTables.{bare_tables_sound, next_tables}

module _ (k : Bounds) (s : State) (sound : SoundTables s.tables) (ledgers : (o : ℕ) → Sound (s.ledgers o)) (u : Use) (yes' : draw_number (view s) u ≡ 0) where
  -- the state that the draw leaves
  drawn_state : next k (Draw u) s ≡ after (Draw u) 0 s
  drawn_state = ap (λ j. after (Draw u) j s) yes'

  owner_known : is_owner (drawn_owner s u) ≡ true
  owner_known =
      let mine = own_object (s.tables.object u.object) (draw_passed (view s) u yes').sort in
      lt-ltb (drawn_owner s u) 128 (sound.owners_inside (drawn_owner s u) (sound.owner_exists u.object (drawn_owner s u) mine))

  now_open : ((view (after (Draw u) 0 s)).ledger (drawn_owner s u)).uses (drawn_serial s u) ≡ Some u
  now_open =
      ap (λ l. usage_in l.places (drawn_serial s u)) (put_here (drawn_owner s u) s.ledgers (drawn u (s.ledgers (drawn_owner s u))))
      ∙ drawn_usage u (s.ledgers (drawn_owner s u)) (ledgers (drawn_owner s u)) (ltb-true _ 8 (draw_passed (view s) u yes').few_open)

  still_covered : covers s.tables (view s).word (drawn_owner s u) u ≡ true
  still_covered = passed_covers (view s) u (draw_passed (view s) u yes')

  pub entered_at_once : number k (view (next k (Draw u) s)) (Enter (drawn_owner s u) (drawn_serial s u)) ≡ 0
  entered_at_once =
      let known = owner_known in
      ap (λ x. number k (view x) (Enter (drawn_owner s u) (drawn_serial s u))) drawn_state
      ∙ ap (λ b. cond b (cond (is_some (((view (after (Draw u) 0 s)).ledger (drawn_owner s u)).uses (drawn_serial s u))) (cond (covers_permit (view (after (Draw u) 0 s)) (drawn_owner s u) (((view (after (Draw u) 0 s)).ledger (drawn_owner s u)).uses (drawn_serial s u))) 0 19) 18) 1) known
      ∙ ap (λ x. cond (is_some x) (cond (covers_permit (view (after (Draw u) 0 s)) (drawn_owner s u) x) 0 19) 18) now_open
      ∙ ap (λ b. cond b 0 19) still_covered

  pub handed_back_at_once : number k (view (next k (Draw u) s)) (HandBack (drawn_owner s u) (drawn_serial s u)) ≡ 0
  handed_back_at_once =
      let known = owner_known in
      ap (λ x. number k (view x) (HandBack (drawn_owner s u) (drawn_serial s u))) drawn_state
      ∙ ap (λ b. cond b (cond (is_some (((view (after (Draw u) 0 s)).ledger (drawn_owner s u)).uses (drawn_serial s u))) 0 18) 1) known
      ∙ ap (λ x. cond (is_some x) 0 18) now_open

tables_after : (k : Bounds) (calls : List Call) (s : State) → SoundTables s.tables → SoundTables (state_after k s calls).tables
tables_after k [] s sound = sound
tables_after k (c ∷ cs) s sound = tables_after k cs (next k c s) (next_tables k s c sound)

pub beside : (k : Bounds) (calls : List Call) → Beside k calls
beside k calls =
    let s = state_of k calls in
    let sound = tables_after k calls (bare_state k) bare_tables_sound in
    let ledgers = λ (o : ℕ). ((history_as k calls).ledgers o).sound in
    record {
      tables = sound;
      entered = λ u e. entered_at_once k s sound ledgers u e;
      handed_back = λ u e. handed_back_at_once k s sound ledgers u e;
    }
