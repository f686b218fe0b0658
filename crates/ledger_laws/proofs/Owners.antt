-- One owner's ledger among those of all, event by event.
use Rattle.std.proofs.Common.{◌≡◌, ℕ, zero, suc, ◌<◌, true, ltb, List, [], ◌∷◌, sym, refl, ◌∙◌, subst, inl, inr}
use Rattle.std.proofs.lemmas.Bool.{cases_eq, eq-eqb, ne_eqb, lt-ltb}
use Rattle.vocabulary.specs.Questions.{Question, first_no, if_accepted}
use Rattle.bits.specs.Tables.{put}
use Rattle.vocabulary.proofs.Puts.{put_here, put_other}
use Rattle.ledger.specs.Places.{permits_of}
use Rattle.ledger.specs.States.{LedgerState, drawn, closed, draw_questions, close_questions, after_close, Sound}
use Rattle.ledger.specs.Table.{Table, known}
use Rattle.ledger.specs.declared.place.Closing.{Closing}
use Rattle.ledger.specs.declared.place.Closing.TheVariants.{Lapse}
use Rattle.ledger.specs.declared.place.Which.TheVariants.{Serial, Sessions, All}
use Rattle.ledger_laws.specs.Events.{call_left, event_left}
use Rattle.ledger_laws.specs.Fates.{Account, call_step, step, close_step, Accounted}
use Rattle.ledger_laws.specs.declared.event.LedgerEvent.{LedgerEvent}
use Rattle.ledger_laws.specs.declared.event.LedgerEvent.TheVariants.{Of, SessionsEnd}
use Rattle.ledger_laws.specs.declared.event.OwnerCall.{OwnerCall}
use Rattle.ledger_laws.specs.declared.event.OwnerCall.TheVariants.{Draw, Close, LapseAll}
use Rattle.ledger_laws.proofs.Steps.{close_accounted, close_all, draw_accounted}

-- a call changes the ledger of its owner, and no other
module _ (f : Table) (o : ℕ) (asked : LedgerState → List Question) (new : LedgerState → LedgerState) where
  here : o < 128 → if_accepted (first_no (known o ∷ asked (f o))) (put o (new (f o)) f) f o ≡ if_accepted (first_no (asked (f o))) (new (f o)) (f o)
  here lt = let e : ltb o 128 ≡ true = lt-ltb o 128 lt in simp e (at (first_no (asked (f o))))
    where
      at : (n : ℕ) → if_accepted n (put o (new (f o)) f) f o ≡ if_accepted n (new (f o)) (f o)
      at zero = put_here o f (new (f o))
      at (suc n) = refl

pub elsewhere : (n : ℕ) (o : ℕ) (s : LedgerState) (f : Table) (k : ℕ) → (k ≡ o → ⊥) → if_accepted n (put o s f) f k ≡ f k
elsewhere zero o s f k other = put_other o f s k other
elsewhere (suc n) o s f k other = refl

pub call_elsewhere : (o : ℕ) (call : OwnerCall) (f : Table) (k : ℕ) → (k ≡ o → ⊥) → call_left o call f k ≡ f k
call_elsewhere o (Draw u) f k other = elsewhere _ o (drawn u (f o)) f k other
call_elsewhere o (Close n c) f k other = elsewhere _ o (closed c (permits_of (Serial n)) (f o)) f k other
call_elsewhere o LapseAll f k other = elsewhere _ o (closed Lapse (permits_of All) (f o)) f k other

-- the events, at the ledger of the owner o
module _ (o : ℕ) (lt : o < 128) (a : Account) (f : Table) (sound : Sound (f o)) (acc : Accounted a (f o)) where
  -- one permit is closed
  one_accounted : (c : Closing) (n : ℕ) (s : LedgerState) → s ≡ after_close c n (f o) → Sound s → Accounted (close_step c (permits_of (Serial n)) a) s
  one_accounted c n s e after =
      let same = e ∙ close_all a (f o) sound acc c n in
      subst (Accounted (close_step c (permits_of (Serial n)) a)) (sym same) (close_accounted a (f o) sound acc c (permits_of (Serial n)) (subst Sound same after))

  call_accounted : (call : OwnerCall) → Sound (call_left o call f o) → Accounted (call_step call a) (call_left o call f o)
  call_accounted (Draw u) after =
      let same = here f o draw_questions (drawn u) lt in
      subst (Accounted (call_step (Draw u) a)) (sym same) (draw_accounted a (f o) sound acc u (subst Sound same after))
  call_accounted (Close n c) after = one_accounted c n (call_left o (Close n c) f o) (here f o (close_questions n) (closed c (permits_of (Serial n))) lt) after
  call_accounted LapseAll after =
      let same = here f o (λ _. []) (closed Lapse (permits_of All)) lt in
      subst (Accounted (call_step LapseAll a)) (sym same) (close_accounted a (f o) sound acc Lapse (permits_of All) (subst Sound same after))

  pub event_accounted : (e : LedgerEvent) → Sound (event_left e f o) → Accounted (step o e a) (event_left e f o)
  event_accounted (SessionsEnd ended) after = close_accounted a (f o) sound acc Lapse (permits_of (Sessions ended)) after
  event_accounted (Of k call) after =
      elim (cases_eq k o) [
        | inl mine ↦
            let e = eq-eqb k o mine in
            let P : ℕ → Type 0 = λ (j : ℕ). Accounted (call_step call a) (call_left j call f o) in
            simp e (subst P (sym mine) (call_accounted call (subst (λ (j : ℕ). Sound (call_left j call f o)) mine after)))
        | inr other ↦
            let e = ne_eqb k o other in
            simp e (subst (Accounted a) (sym (call_elsewhere k call f o (λ z. other (sym z)))) acc)
      ]
