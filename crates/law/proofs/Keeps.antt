-- What the kernel's state says is what the account says, and every call keeps it so.
use Rattle.std.proofs.Common.{◌≡◌, ℕ, zero, suc, ◌+◌, ◌<◌, Bool, true, false, cond, eqb, List, [], ◌∷◌, is_some, count_by, sym, refl, ap, ◌∙◌, subst, inl, inr, arith}
use mathlib.Core.Path.{fun_ext}
use Rattle.std.proofs.lemmas.Bool.{cases_Bool, eqb-true, ltb-true}
use Rattle.vocabulary.specs.Questions.{if_accepted, is_accepted}
use Rattle.bits.specs.Tables.{put, one}
use Rattle.vocabulary.proofs.Puts.{put_same}
use Rattle.register.specs.Meaning.{Consents, Register}
use Rattle.directory.specs.Effects.{delete_user_ends, delete_role_ends, deassign_ends, delete_inheritance_ends, end_ends}
use Rattle.ledger.specs.Places.{Permits, meets, usage_in, permits_of}
use Rattle.ledger.specs.States.{LedgerState, opens, drawn, closed}
use Rattle.ledger.specs.Table.{Table}
use Rattle.ledger.specs.declared.place.Closing.{Closing}
use Rattle.ledger.specs.declared.place.Closing.TheVariants.{Entry, HandingBack, Lapse}
use Rattle.ledger.specs.declared.place.Use.{Use}
use Rattle.ledger.specs.declared.place.Which.TheVariants.{Serial, All}
use Rattle.ledger.proofs.Closings.{count_serial, closed_none}
use Rattle.ledger_laws.specs.Fates.{Account, issue_step, close_step, account, Accounted}
use Rattle.ledger_laws.proofs.Histories.{none_accounted}
use Rattle.calls.specs.declared.command.Command.TheVariants.{Directory as DirectoryFamily, Consent as ConsentFamily, Session as SessionFamily, Question as QuestionFamily}
use Rattle.calls.specs.declared.command.Directory.TheVariants.{AddUser, DeleteUser, AddRole, DeleteRole, Assign, Deassign, AddInheritance, DeleteInheritance, AddPlainObject, AddPersonalObject, DeleteObject, GrantPlain, RevokePlain, GrantPrivate, RevokePrivate, AddOwner, DeleteOwner}
use Rattle.calls.specs.declared.command.Session.TheVariants.{Open, End, ActivateRole, DropRole, AccessPlain, Use as UseCommand, Look}
use Rattle.rules.specs.State.{owner_of, Tables, State, Bounds, bare_state}
use Rattle.rules.specs.Views.{view, LedgerView, ledger_view, register_in}
use Rattle.rules.specs.Numbers.{is_owner, use_of, draw_number, covers_permit, number}
use Rattle.rules.specs.Effects.{register_after, of_sessions, closed_in, tables_after, ledgers_after}
use Rattle.rules.specs.Rules.{ledgers_refused, next}
use Rattle.rules.specs.declared.call.Call.{Call}
use Rattle.rules.specs.declared.call.Call.TheVariants.{Command as CommandCall, Draw, Enter, HandBack, Ledger}
use Rattle.law.specs.Account.{Past, leaves, latest, bears, tables_of, stands, permits, fates_accepted, fates_refused, ledger_of, account_view}
use Rattle.law.specs.Histories.{event, state_after, past_after, state_of, past_of}
use Rattle.law.proofs.Accepted.{draw_passed}
use Rattle.law.proofs.Ledgers.{Kept, empty_sound, closed_kept, drawn_kept, put_kept}
use Rattle.law.proofs.Words.{Borne, borne}

-- ---- the ledgers

module _ (accounts : ℕ → Account) (f : Table) (kept : (o : ℕ) → Kept (accounts o) (f o)) where
  -- one permit, or all of an owner's, comes to its end
  kept_closed_in : (c : Closing) (w : ℕ) (these : Permits) (o : ℕ) → Kept (cond (eqb o w) (close_step c these (accounts o)) (accounts o)) (closed_in c w these f o)
  kept_closed_in c w these o = put_kept w (close_step c these) (closed c these (f w)) accounts f kept (closed_kept c these (accounts w) (f w) (kept w)) o

  -- a permit more
  kept_drawn_in : (u : Use) (w : ℕ) → opens (f w) < 8 → (o : ℕ) → Kept (cond (eqb o w) (issue_step u (accounts o)) (accounts o)) (put w (drawn u (f w)) f o)
  kept_drawn_in u w room o = put_kept w (issue_step u) (drawn u (f w)) accounts f kept (drawn_kept u (accounts w) (f w) room (kept w)) o

  -- a permit that is refused its end since it is not open: nothing to end
  not_open : (w n : ℕ) → is_some (usage_in (f w).places n) ≡ false → (o : ℕ) → Kept (cond (eqb o w) (close_step Lapse (permits_of (Serial n)) (accounts o)) (accounts o)) (f o)
  not_open w n shut o =
      let none : count_by (meets (permits_of (Serial n))) (f w).places ≡ 0 = count_serial n (f w).places (kept w).sound.apart ∙ ap one shut in
      let same : closed_in Lapse w (permits_of (Serial n)) f ≡ f = ap (λ l. put w l f) (closed_none Lapse (permits_of (Serial n)) (f w) none) ∙ put_same w f in
      subst (λ g. Kept (cond (eqb o w) (close_step Lapse (permits_of (Serial n)) (accounts o)) (accounts o)) (g o)) same (kept_closed_in Lapse w (permits_of (Serial n)) o)

-- a permit drawn and closed at once
drawn_closed : (accounts : ℕ → Account) (f : Table) (kept : (o : ℕ) → Kept (accounts o) (f o)) (c : Closing) (u : Use) (w : ℕ) → opens (f w) < 8 → (o : ℕ)
    → Kept (cond (eqb o w) (close_step c (permits_of (Serial ((accounts o).issued + 1))) (issue_step u (accounts o))) (accounts o)) (closed_in c w (permits_of (Serial ((f w).issued + 1))) (put w (drawn u (f w)) f) o)
drawn_closed accounts f kept c u w room o =
    elim (cases_Bool (eqb o w)) [
      | inl e ↦
          let here : o ≡ w = eqb-true o w e in
          let serial : (f w).issued + 1 ≡ (accounts o).issued + 1 = ap (λ n. n + 1) ((kept w).accounted.issued ∙ ap (λ j. (accounts j).issued) (sym here)) in
          let then-closed = kept_closed_in drawn_accounts (put w (drawn u (f w)) f) (kept_drawn_in accounts f kept u w room) c w (permits_of (Serial ((f w).issued + 1))) o in
          subst (λ a. Kept a (closed_in c w (permits_of (Serial ((f w).issued + 1))) (put w (drawn u (f w)) f) o))
          ((λ i. cond (e i) (close_step c (permits_of (Serial (serial i))) (cond (e i) (issue_step u (accounts o)) (accounts o))) (cond (e i) (issue_step u (accounts o)) (accounts o)))
          ∙ sym (ap (λ b. cond b (close_step c (permits_of (Serial ((accounts o).issued + 1))) (issue_step u (accounts o))) (accounts o)) e))
          then-closed
      | inr e ↦ simp e (kept o)
    ]
  where
    drawn_accounts : ℕ → Account
    drawn_accounts j = cond (eqb j w) (issue_step u (accounts j)) (accounts j)

-- the permits of the sessions that ended lapse, in every ledger
lapsed_by : (accounts : ℕ → Account) (f : Table) (kept : (o : ℕ) → Kept (accounts o) (f o)) (which : ℕ → Bool) (o : ℕ) → Kept (close_step Lapse (of_sessions which) (accounts o)) (closed Lapse (of_sessions which) (f o))
lapsed_by accounts f kept which o = closed_kept Lapse (of_sessions which) (accounts o) (f o) (kept o)

module _ (k : Bounds) (s : State) (accounts : ℕ → Account) (kept : (o : ℕ) → Kept (accounts o) (s.ledgers o)) where
  -- a draw that is accepted finds a place
  room : (u : Use) → draw_number (view s) u ≡ 0 → opens (s.ledgers (owner_of (s.tables.object u.object))) < 8
  room u e = ltb-true _ 8 (draw_passed (view s) u e).few_open

  accepted_kept : (c : Call) → number k (view s) c ≡ 0 → (o : ℕ) → Kept (fates_accepted s.tables c o (accounts o)) (ledgers_after s.tables c s.ledgers o)
  accepted_kept (CommandCall (DirectoryFamily (AddUser u))) e o = kept o
  accepted_kept (CommandCall (DirectoryFamily (DeleteUser u))) e o = lapsed_by accounts s.ledgers kept (delete_user_ends s.tables.directory u) o
  accepted_kept (CommandCall (DirectoryFamily (AddRole r))) e o = kept o
  accepted_kept (CommandCall (DirectoryFamily (DeleteRole r))) e o = lapsed_by accounts s.ledgers kept (delete_role_ends s.tables.directory r) o
  accepted_kept (CommandCall (DirectoryFamily (Assign u r))) e o = kept o
  accepted_kept (CommandCall (DirectoryFamily (Deassign u r))) e o = lapsed_by accounts s.ledgers kept (deassign_ends s.tables.directory u r) o
  accepted_kept (CommandCall (DirectoryFamily (AddInheritance a d))) e o = kept o
  accepted_kept (CommandCall (DirectoryFamily (DeleteInheritance a d))) e o = lapsed_by accounts s.ledgers kept (delete_inheritance_ends s.tables.directory a d) o
  accepted_kept (CommandCall (DirectoryFamily (AddPlainObject b))) e o = kept o
  accepted_kept (CommandCall (DirectoryFamily (AddPersonalObject b w m))) e o = kept o
  accepted_kept (CommandCall (DirectoryFamily (DeleteObject b))) e o = kept o
  accepted_kept (CommandCall (DirectoryFamily (GrantPlain p b r))) e o = kept o
  accepted_kept (CommandCall (DirectoryFamily (RevokePlain p b r))) e o = kept o
  accepted_kept (CommandCall (DirectoryFamily (GrantPrivate p b q r))) e o = kept o
  accepted_kept (CommandCall (DirectoryFamily (RevokePrivate p b q r))) e o = kept o
  accepted_kept (CommandCall (DirectoryFamily (AddOwner w))) e o = kept o
  accepted_kept (CommandCall (DirectoryFamily (DeleteOwner w))) e o = kept_closed_in accounts s.ledgers kept Lapse w (permits_of All) o
  accepted_kept (CommandCall (ConsentFamily c)) e o = kept o
  accepted_kept (CommandCall (SessionFamily (Open x u))) e o = kept o
  accepted_kept (CommandCall (SessionFamily (End x))) e o = lapsed_by accounts s.ledgers kept (end_ends s.tables.directory x) o
  accepted_kept (CommandCall (SessionFamily (ActivateRole x r))) e o = kept o
  accepted_kept (CommandCall (SessionFamily (DropRole x r))) e o = kept o
  accepted_kept (CommandCall (SessionFamily (AccessPlain x p b))) e o = kept o
  accepted_kept (CommandCall (SessionFamily (UseCommand x p b q))) e o = drawn_closed accounts s.ledgers kept Entry (use_of x p b q) (owner_of (s.tables.object b)) (room (use_of x p b q) e) o
  accepted_kept (CommandCall (SessionFamily (Look x p b q))) e o = drawn_closed accounts s.ledgers kept HandingBack (use_of x p b q) (owner_of (s.tables.object b)) (room (use_of x p b q) e) o
  accepted_kept (CommandCall (QuestionFamily c)) e o = kept o
  accepted_kept (Draw u) e o = kept_drawn_in accounts s.ledgers kept u (owner_of (s.tables.object u.object)) (room u e) o
  accepted_kept (Enter w n) e o = kept_closed_in accounts s.ledgers kept Entry w (permits_of (Serial n)) o
  accepted_kept (HandBack w n) e o = kept_closed_in accounts s.ledgers kept HandingBack w (permits_of (Serial n)) o
  accepted_kept (Ledger w) e o = kept o

  -- an entry that is refused: the number out of range, no such permit open, or its use not covered
  refused_entry : (w n o : ℕ) (known there covered : Bool) → is_some (usage_in (s.ledgers w).places n) ≡ there → (◌≡◌ {A = ℕ} (cond known (cond there (cond covered 0 19) 18) 1) 0 → ⊥)
      → Kept (cond known (cond (eqb o w) (close_step Lapse (permits_of (Serial n)) (accounts o)) (accounts o)) (accounts o)) (cond (eqb (cond known (cond there (cond covered 0 19) 18) 1) 19) (closed_in Lapse w (permits_of (Serial n)) s.ledgers) s.ledgers o)
  refused_entry w n o false there covered is no' = kept o
  refused_entry w n o true false covered is no' = not_open accounts s.ledgers kept w n is o
  refused_entry w n o true true false is no' = kept_closed_in accounts s.ledgers kept Lapse w (permits_of (Serial n)) o
  refused_entry w n o true true true is no' = absurd (no' refl)

  refused_kept : (c : Call) → (number k (view s) c ≡ 0 → ⊥) → (o : ℕ) → Kept (fates_refused c o (accounts o)) (ledgers_refused c (number k (view s) c) s.ledgers o)
  refused_kept (CommandCall c) no' o = kept o
  refused_kept (Draw u) no' o = kept o
  refused_kept (Enter w n) no' o = refused_entry w n o (is_owner w) (is_some (usage_in (s.ledgers w).places n)) (covers_permit (view s) w (usage_in (s.ledgers w).places n)) refl no'
  refused_kept (HandBack w n) no' o = kept o
  refused_kept (Ledger w) no' o = kept o

-- whichever way the call was answered
either_kept : (n : ℕ) (yes' no' : Account) (f g : Table) (o : ℕ) → (n ≡ 0 → Kept yes' (f o)) → ((n ≡ 0 → ⊥) → Kept no' (g o)) → Kept (cond (is_accepted n) yes' no') (if_accepted n f g o)
either_kept zero yes' no' f g o first second = first refl
either_kept (suc n) yes' no' f g o first second = second (λ e. omega arith)

-- ---- the tables and the words

tables_step : (n : ℕ) (new : Tables → Tables) (t u : Tables) → t ≡ u → if_accepted n (new t) t ≡ cond (is_accepted n) (new u) u
tables_step zero new t u e = ap new e
tables_step (suc n) new t u e = e

pub word_step : (n : ℕ) (new m : Register) (c : Call) (w : Consents) → m.entries ≡ w → (n ≡ 0 → Borne m new c) → (if_accepted n new m).entries ≡ (λ o q t. latest (cond (is_accepted n) (bears c o q t) leaves) (w o q t))
word_step zero new m c w e b = (b refl).entries ∙ ap (λ f. λ o q t. latest (bears c o q t) (f o q t)) e
word_step (suc n) new m c w e b = e

pub limit_step : (n : ℕ) (new m : Register) (c : Call) → (n ≡ 0 → Borne m new c) → (if_accepted n new m).limit ≡ m.limit
limit_step zero new m c b = (b refl).limit
limit_step (suc n) new m c b = refl

-- ---- all of it

-- the state says what the account of the past says
pub record As (k : Bounds) (past : Past) (s : State) : Type 0 where
  pub tables : s.tables ≡ tables_of past
  pub word : s.register.entries ≡ stands past
  pub limit : s.register.limit ≡ k.limit
  pub ledgers : (o : ℕ) → Kept (permits past o) (s.ledgers o)

pub bare_as : (k : Bounds) → As k [] (bare_state k)
unfolding tables_of stands permits account
bare_as k = record { tables = refl; word = refl; limit = refl; ledgers = λ o. record { sound = empty_sound; accounted = none_accounted o } }

pub next_as : (k : Bounds) (past : Past) (s : State) (c : Call) → As k past s → As k (event k s c ∷ past) (next k c s)
unfolding tables_of stands permits
next_as k past s c told =
    let n = number k (view s) c in
    let whole : register_in k (view s) ≡ s.register = λ i. record { limit = sym told.limit i; entries = s.register.entries } in
    let bears-so : n ≡ 0 → Borne s.register (register_after s.register c) c = λ e. subst (λ m. Borne m (register_after m c) c) whole (borne k (view s) c e) in
    record {
      tables = tables_step n (λ t. tables_after t c) s.tables (tables_of past) told.tables;
      word = word_step n (register_after s.register c) s.register c (stands past) told.word bears-so;
      limit = limit_step n (register_after s.register c) s.register c bears-so ∙ told.limit;
      ledgers = λ o. either_kept n _ _ _ _ o
          (λ e. subst (λ t. Kept (fates_accepted t c o (permits past o)) (ledgers_after s.tables c s.ledgers o)) told.tables (accepted_kept k s (permits past) told.ledgers c e o))
          (λ no'. refused_kept k s (permits past) told.ledgers c no' o);
    }

pub after_as : (k : Bounds) (calls : List Call) (past : Past) (s : State) → As k past s → As k (past_after k s past calls) (state_after k s calls)
after_as k [] past s told = told
after_as k (c ∷ cs) past s told = after_as k cs (event k s c ∷ past) (next k c s) (next_as k past s c told)

pub history_as : (k : Bounds) (calls : List Call) → As k (past_of k calls) (state_of k calls)
history_as k calls = after_as k calls [] (bare_state k) (bare_as k)

-- where the questions look, state and account are the same
pub view_as : (k : Bounds) (past : Past) (s : State) → As k past s → view s ≡ account_view past
view_as k past s told = λ i. record { tables = told.tables i; word = told.word i; ledger = ledgers i }
  where
    same_view : (a : Account) (l : LedgerState) → Accounted a l → ledger_view l ≡ ledger_of a
    same_view a l acc = λ i. record { issued = acc.issued i; entered = acc.entered i; handed_back = acc.handed_back i; lapsed = acc.lapsed i; still_open = acc.still_open i; uses = acc.uses i }

    ledgers : ◌≡◌ {A = ℕ → LedgerView} (λ o. ledger_view (s.ledgers o)) (λ o. ledger_of (permits past o))
    ledgers = fun_ext (λ o. same_view (permits past o) (s.ledgers o) (told.ledgers o).accounted)
