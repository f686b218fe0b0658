-- What a call leaves of one owner's words and ledger depends on these alone.
use Rattle.std.proofs.Common.{◌≡◌, ℕ, zero, suc, ◌+◌, true, cond, eqb, sym, refl, ap, ◌∙◌, subst, inl, inr}
use Rattle.std.proofs.lemmas.Bool.{cases_Bool, eqb-true}
use Rattle.vocabulary.specs.Questions.{if_accepted, is_accepted}
use Rattle.bits.specs.Tables.{put}
use Rattle.directory.specs.Effects.{delete_user_ends, delete_role_ends, deassign_ends, delete_inheritance_ends, end_ends}
use Rattle.ledger.specs.Places.{Permits, permits_of}
use Rattle.ledger.specs.States.{LedgerState, drawn, closed}
use Rattle.ledger.specs.Table.{Table}
use Rattle.ledger.specs.declared.place.Closing.{Closing}
use Rattle.ledger.specs.declared.place.Closing.TheVariants.{Entry, HandingBack, Lapse}
use Rattle.ledger.specs.declared.place.Use.{Use}
use Rattle.ledger.specs.declared.place.Which.TheVariants.{Serial, All}
use Rattle.calls.specs.declared.command.Command.TheVariants.{Directory as DirectoryFamily, Consent as ConsentFamily, Session as SessionFamily, Question as QuestionFamily}
use Rattle.calls.specs.declared.command.Directory.{Directory}
use Rattle.calls.specs.declared.command.Directory.TheVariants.{AddUser, DeleteUser, AddRole, DeleteRole, Assign, Deassign, AddInheritance, DeleteInheritance, AddPlainObject, AddPersonalObject, DeleteObject, GrantPlain, RevokePlain, GrantPrivate, RevokePrivate, AddOwner, DeleteOwner}
use Rattle.calls.specs.declared.command.Session.{Session}
use Rattle.calls.specs.declared.command.Session.TheVariants.{Open, End, ActivateRole, DropRole, AccessPlain, Use as UseCommand, Look}
use Rattle.rules.specs.State.{owner_of, Tables, State, Bounds}
use Rattle.rules.specs.Views.{view, register_in}
use Rattle.rules.specs.Numbers.{number, use_of}
use Rattle.rules.specs.Effects.{of_sessions, closed_in, register_after, ledgers_after}
use Rattle.rules.specs.Rules.{ledgers_refused, next}
use Rattle.rules.specs.declared.call.Call.{Call}
use Rattle.rules.specs.declared.call.Call.TheVariants.{Command as CommandCall, Draw, Enter, HandBack, Ledger}
use Rattle.law.specs.Account.{leaves, latest, bears}
use Rattle.law.proofs.Words.{Borne, borne}
use Rattle.law.proofs.Keeps.{word_step, limit_step}

-- ---- the words

module _ (k : Bounds) (s : State) (c : Call) (limit : s.register.limit ≡ k.limit) where
  borne_here : number k (view s) c ≡ 0 → Borne s.register (register_after s.register c) c
  borne_here e =
      let whole : register_in k (view s) ≡ s.register = λ i. record { limit = sym limit i; entries = s.register.entries } in
      subst (λ m. Borne m (register_after m c) c) whole (borne k (view s) c e)

  pub words_after : (next k c s).register.entries ≡ (λ o q t. latest (cond (is_accepted (number k (view s) c)) (bears c o q t) leaves) (s.register.entries o q t))
  words_after = word_step (number k (view s) c) (register_after s.register c) s.register c s.register.entries refl borne_here

  pub limit_after : (next k c s).register.limit ≡ k.limit
  limit_after = limit_step (number k (view s) c) (register_after s.register c) s.register c borne_here ∙ limit

-- ---- the ledgers

-- the ledger l of the owner o after an accepted call
abbrev pub directory_row : Tables → Directory → ℕ → LedgerState → LedgerState
directory_row t (AddUser u) o l = l
directory_row t (DeleteUser u) o l = closed Lapse (of_sessions (delete_user_ends t.directory u)) l
directory_row t (AddRole r) o l = l
directory_row t (DeleteRole r) o l = closed Lapse (of_sessions (delete_role_ends t.directory r)) l
directory_row t (Assign u r) o l = l
directory_row t (Deassign u r) o l = closed Lapse (of_sessions (deassign_ends t.directory u r)) l
directory_row t (AddInheritance a d) o l = l
directory_row t (DeleteInheritance a d) o l = closed Lapse (of_sessions (delete_inheritance_ends t.directory a d)) l
directory_row t (AddPlainObject b) o l = l
directory_row t (AddPersonalObject b w m) o l = l
directory_row t (DeleteObject b) o l = l
directory_row t (GrantPlain p b r) o l = l
directory_row t (RevokePlain p b r) o l = l
directory_row t (GrantPrivate p b q r) o l = l
directory_row t (RevokePrivate p b q r) o l = l
directory_row t (AddOwner w) o l = l
directory_row t (DeleteOwner w) o l = cond (eqb o w) (closed Lapse (permits_of All) l) l

abbrev pub at_once_row : Closing → ℕ → Use → ℕ → LedgerState → LedgerState
at_once_row c w u o l = cond (eqb o w) (closed c (permits_of (Serial (l.issued + 1))) (drawn u l)) l

abbrev pub session_row : Tables → Session → ℕ → LedgerState → LedgerState
session_row t (Open s u) o l = l
session_row t (End s) o l = closed Lapse (of_sessions (end_ends t.directory s)) l
session_row t (ActivateRole s r) o l = l
session_row t (DropRole s r) o l = l
session_row t (AccessPlain s p b) o l = l
session_row t (UseCommand s p b q) o l = at_once_row Entry (owner_of (t.object b)) (use_of s p b q) o l
session_row t (Look s p b q) o l = at_once_row HandingBack (owner_of (t.object b)) (use_of s p b q) o l

abbrev pub row_after : Tables → Call → ℕ → LedgerState → LedgerState
row_after t (CommandCall (DirectoryFamily c)) o l = directory_row t c o l
row_after t (CommandCall (ConsentFamily c)) o l = l
row_after t (CommandCall (SessionFamily c)) o l = session_row t c o l
row_after t (CommandCall (QuestionFamily c)) o l = l
row_after t (Draw u) o l = cond (eqb o (owner_of (t.object u.object))) (drawn u l) l
row_after t (Enter w n) o l = cond (eqb o w) (closed Entry (permits_of (Serial n)) l) l
row_after t (HandBack w n) o l = cond (eqb o w) (closed HandingBack (permits_of (Serial n)) l) l
row_after t (Ledger w) o l = l

-- and after a refused one
abbrev pub row_refused : Call → ℕ → ℕ → LedgerState → LedgerState
row_refused (CommandCall c) n o l = l
row_refused (Draw u) n o l = l
row_refused (Enter w m) n o l = cond (eqb n 19) (cond (eqb o w) (closed Lapse (permits_of (Serial m)) l) l) l
row_refused (HandBack w m) n o l = l
row_refused (Ledger w) n o l = l

-- a place that is put to a value of its own
put_row : (w : ℕ) (new : LedgerState → LedgerState) (f : Table) (o : ℕ) → put w (new (f w)) f o ≡ cond (eqb o w) (new (f o)) (f o)
put_row w new f o =
    elim (cases_Bool (eqb o w)) [
      | inl e ↦ simp e (ap (λ j. new (f j)) (sym (eqb-true o w e)))
      | inr e ↦ simp e
    ]

closed_row : (c : Closing) (w : ℕ) (these : Permits) (f : Table) (o : ℕ) → closed_in c w these f o ≡ cond (eqb o w) (closed c these (f o)) (f o)
closed_row c w these f o = put_row w (closed c these) f o

at_once_by_row : (c : Closing) (w : ℕ) (u : Use) (f : Table) (o : ℕ) → closed_in c w (permits_of (Serial ((f w).issued + 1))) (put w (drawn u (f w)) f) o ≡ at_once_row c w u o (f o)
at_once_by_row c w u f o =
    elim (cases_Bool (eqb o w)) [
      | inl e ↦
          let here : w ≡ o = sym (eqb-true o w e) in
          let same : eqb w w ≡ true = ap (λ j. eqb j w) here ∙ e in
          simp (e, same) (ap (λ j. closed c (permits_of (Serial ((f j).issued + 1))) (drawn u (f j))) here)
      | inr e ↦ simp e
    ]

pub accepted_row : (t : Tables) (c : Call) (f : Table) (o : ℕ) → ledgers_after t c f o ≡ row_after t c o (f o)
accepted_row t (CommandCall (DirectoryFamily (AddUser u))) f o = refl
accepted_row t (CommandCall (DirectoryFamily (DeleteUser u))) f o = refl
accepted_row t (CommandCall (DirectoryFamily (AddRole r))) f o = refl
accepted_row t (CommandCall (DirectoryFamily (DeleteRole r))) f o = refl
accepted_row t (CommandCall (DirectoryFamily (Assign u r))) f o = refl
accepted_row t (CommandCall (DirectoryFamily (Deassign u r))) f o = refl
accepted_row t (CommandCall (DirectoryFamily (AddInheritance a d))) f o = refl
accepted_row t (CommandCall (DirectoryFamily (DeleteInheritance a d))) f o = refl
accepted_row t (CommandCall (DirectoryFamily (AddPlainObject b))) f o = refl
accepted_row t (CommandCall (DirectoryFamily (AddPersonalObject b w m))) f o = refl
accepted_row t (CommandCall (DirectoryFamily (DeleteObject b))) f o = refl
accepted_row t (CommandCall (DirectoryFamily (GrantPlain p b r))) f o = refl
accepted_row t (CommandCall (DirectoryFamily (RevokePlain p b r))) f o = refl
accepted_row t (CommandCall (DirectoryFamily (GrantPrivate p b q r))) f o = refl
accepted_row t (CommandCall (DirectoryFamily (RevokePrivate p b q r))) f o = refl
accepted_row t (CommandCall (DirectoryFamily (AddOwner w))) f o = refl
accepted_row t (CommandCall (DirectoryFamily (DeleteOwner w))) f o = closed_row Lapse w (permits_of All) f o
accepted_row t (CommandCall (ConsentFamily c)) f o = refl
accepted_row t (CommandCall (SessionFamily (Open s u))) f o = refl
accepted_row t (CommandCall (SessionFamily (End s))) f o = refl
accepted_row t (CommandCall (SessionFamily (ActivateRole s r))) f o = refl
accepted_row t (CommandCall (SessionFamily (DropRole s r))) f o = refl
accepted_row t (CommandCall (SessionFamily (AccessPlain s p b))) f o = refl
accepted_row t (CommandCall (SessionFamily (UseCommand s p b q))) f o = at_once_by_row Entry (owner_of (t.object b)) (use_of s p b q) f o
accepted_row t (CommandCall (SessionFamily (Look s p b q))) f o = at_once_by_row HandingBack (owner_of (t.object b)) (use_of s p b q) f o
accepted_row t (CommandCall (QuestionFamily c)) f o = refl
accepted_row t (Draw u) f o = put_row (owner_of (t.object u.object)) (drawn u) f o
accepted_row t (Enter w n) f o = closed_row Entry w (permits_of (Serial n)) f o
accepted_row t (HandBack w n) f o = closed_row HandingBack w (permits_of (Serial n)) f o
accepted_row t (Ledger w) f o = refl

pub refused_row : (c : Call) (n : ℕ) (f : Table) (o : ℕ) → ledgers_refused c n f o ≡ row_refused c n o (f o)
refused_row (CommandCall c) n f o = refl
refused_row (Draw u) n f o = refl
refused_row (Enter w m) n f o =
    elim (cases_Bool (eqb n 19)) [
      | inl e ↦ simp e (closed_row Lapse w (permits_of (Serial m)) f o)
      | inr e ↦ simp e
    ]
refused_row (HandBack w m) n f o = refl
refused_row (Ledger w) n f o = refl

-- what a call leaves of the ledger of the owner o, by its number
pub after_by_row : (t : Tables) (c : Call) (n : ℕ) (f : Table) (o : ℕ) → if_accepted n (ledgers_after t c f) (ledgers_refused c n f) o ≡ if_accepted n (row_after t c o (f o)) (row_refused c n o (f o))
after_by_row t c zero f o = accepted_row t c f o
after_by_row t c (suc n) f o = refused_row c (suc n) f o
