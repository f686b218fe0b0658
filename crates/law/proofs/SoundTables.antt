-- Every accepted call leaves sound tables sound.
use Rattle.std.proofs.Common.{◌≡◌, ℕ, Bool, true, false, cond, not, ◌&&◌, eqb, ◌⊎◌, List, sym, ap, ◌∙◌, inl, inr, arith, lit<}
use Rattle.std.proofs.lemmas.Bool.{cases_eq, cases_Bool, eqb-true, eq-eqb, ltb-true, true≢false}
use Rattle.vocabulary.specs.Questions.{if_accepted}
use Rattle.bits.specs.Tables.{put}
use Rattle.vocabulary.proofs.Puts.{put_at, put_other, put_keeps, put_cases, put_left, put_stays}
use Rattle.vocabulary.proofs.Questions.{passed, accepted_or_not}
use Rattle.bits.specs.Sets.{has}
use Rattle.records.specs.declared.kinds.PlainGrant.{PlainGrant}
use Rattle.records.specs.declared.kinds.PrivateGrant.{PrivateGrant}
use Rattle.directory.specs.State.{DirectoryState}
use Rattle.directory_laws.specs.Soundness.{Sound}
use Rattle.directory_laws.specs.declared.call.DirectoryCall.TheVariants.{AddUser as AddUserCall, DeleteUser as DeleteUserCall, AddRole as AddRoleCall, DeleteRole as DeleteRoleCall, Assign as AssignCall, Deassign as DeassignCall, AddInheritance as AddInheritanceCall, DeleteInheritance as DeleteInheritanceCall, OpenSession, EndSession, ActivateRole as ActivateRoleCall, DropRole as DropRoleCall}
use Rattle.directory_laws.proofs.Sound.{bare_sound, step_sound}
use Rattle.calls.specs.declared.command.Command.TheVariants.{Directory as DirectoryFamily, Consent as ConsentFamily, Session as SessionFamily, Question as QuestionFamily}
use Rattle.calls.specs.declared.command.Directory.TheVariants.{AddUser, DeleteUser, AddRole, DeleteRole, Assign, Deassign, AddInheritance, DeleteInheritance, AddPlainObject, AddPersonalObject, DeleteObject, GrantPlain, RevokePlain, GrantPrivate, RevokePrivate, AddOwner, DeleteOwner}
use Rattle.calls.specs.declared.command.Consent.TheVariants.{Offer, Retract, Give, Withdraw}
use Rattle.calls.specs.declared.command.Session.TheVariants.{Open, End, ActivateRole, DropRole, AccessPlain, Use as UseCommand, Look}
use Rattle.rules.specs.State.{ObjectState, absent, plain, personal, exists, belongs_to, State, Bounds, bare_tables}
use Rattle.rules.specs.Views.{view}
use Rattle.rules.specs.Numbers.{is_object, is_owner, number}
use Rattle.rules.specs.Effects.{tables_after}
use Rattle.rules.specs.declared.call.Call.{Call}
use Rattle.rules.specs.declared.call.Call.TheVariants.{Command as CommandCall, Draw, Enter, HandBack, Ledger}
use Rattle.law.specs.Beside.{SoundTables}

pub bare_tables_sound : SoundTables bare_tables
bare_tables_sound = record {
  directory = bare_sound;
  owners_inside = λ o e. absurd (true≢false (sym e));
  owner_exists = λ b o e. absurd (true≢false (sym e));
}

-- an object that is o's after one was put is the one put, or was o's
put_owned : (f : ℕ → ObjectState) (b : ℕ) (x : ObjectState) (c o : ℕ) → belongs_to o (put b x f c) ≡ true → (belongs_to o x ≡ true) ⊎ (belongs_to o (f c) ≡ true)
put_owned f b x c o e =
    elim (cases_eq c b) [
      | inl here ↦ inl (ap (belongs_to o) (sym (put_at b f x c here)) ∙ e)
      | inr other ↦ inr (ap (belongs_to o) (sym (put_other b f x c other)) ∙ e)
    ]

-- an object that is left when the objects of w are gone is another owner's
left_owned : (w o : ℕ) (x : ObjectState) → belongs_to o (cond (belongs_to w x) absent x) ≡ true → (belongs_to o x ≡ true) × (o ≡ w → ⊥)
left_owned w o absent e = absurd (true≢false (sym (gone (belongs_to w absent) e)))
  where
    gone : (b : Bool) → belongs_to o (cond b absent absent) ≡ true → false ≡ true
    gone true e = e
    gone false e = e
left_owned w o plain e = absurd (true≢false (sym e))
left_owned w o (personal k types) e =
    elim (cases_Bool (eqb k w)) [
      | inl here ↦ absurd (true≢false (sym (simp here at e)))
      | inr other ↦
          let mine : eqb k o ≡ true = simp other at e in
          (mine, λ same. true≢false (sym (eq-eqb k w (eqb-true k o mine ∙ same)) ∙ other))
    ]

module _ (k : Bounds) (s : State) (sound : SoundTables s.tables) where
  -- where owners and objects stay as they were
  still : {d : DirectoryState} {f : ℕ → ℕ → Bool} {p : List PlainGrant} {q : List PrivateGrant} → Sound d → SoundTables (record { directory = d; owner = s.tables.owner; offered = f; object = s.tables.object; plain_grants = p; private_grants = q })
  still after = record { directory = after; owners_inside = sound.owners_inside; owner_exists = sound.owner_exists }

  pub tables_sound : (c : Call) → number k (view s) c ≡ 0 → SoundTables (tables_after s.tables c)
  tables_sound (CommandCall (DirectoryFamily (AddUser u))) e = still (step_sound s.tables.directory (AddUserCall u) sound.directory)
  tables_sound (CommandCall (DirectoryFamily (DeleteUser u))) e = still (step_sound s.tables.directory (DeleteUserCall u) sound.directory)
  tables_sound (CommandCall (DirectoryFamily (AddRole r))) e = still (step_sound s.tables.directory (AddRoleCall r) sound.directory)
  tables_sound (CommandCall (DirectoryFamily (DeleteRole r))) e = still (step_sound s.tables.directory (DeleteRoleCall r) sound.directory)
  tables_sound (CommandCall (DirectoryFamily (Assign u r))) e = still (step_sound s.tables.directory (AssignCall u r) sound.directory)
  tables_sound (CommandCall (DirectoryFamily (Deassign u r))) e = still (step_sound s.tables.directory (DeassignCall u r) sound.directory)
  tables_sound (CommandCall (DirectoryFamily (AddInheritance a d))) e = still (step_sound s.tables.directory (AddInheritanceCall a d) sound.directory)
  tables_sound (CommandCall (DirectoryFamily (DeleteInheritance a d))) e = still (step_sound s.tables.directory (DeleteInheritanceCall a d) sound.directory)
  tables_sound (CommandCall (DirectoryFamily (AddPlainObject b))) e =
      record {
        directory = sound.directory;
        owners_inside = sound.owners_inside;
        owner_exists = λ c o mine.
            elim (put_owned s.tables.object b plain c o mine) [ inl new ↦ absurd (true≢false (sym new)) | inr was ↦ sound.owner_exists c o was ];
      }
  tables_sound (CommandCall (DirectoryFamily (AddPersonalObject b w m))) e =
      let range = passed (is_object b && (is_owner w && not (eqb m 0))) 1 (cond (s.tables.owner w) (cond (not (exists (s.tables.object b))) 0 9) 5) (lit< tt) e in
      let owner = passed (s.tables.owner w) 5 (cond (not (exists (s.tables.object b))) 0 9) (lit< tt) range.1 in
      record {
        directory = sound.directory;
        owners_inside = sound.owners_inside;
        owner_exists = λ c o mine.
            elim (put_owned s.tables.object b (personal w (has m)) c o mine) [
              | inl new ↦ ap s.tables.owner (sym (eqb-true w o new)) ∙ owner.0
              | inr was ↦ sound.owner_exists c o was
            ];
      }
  tables_sound (CommandCall (DirectoryFamily (DeleteObject b))) e =
      record {
        directory = sound.directory;
        owners_inside = sound.owners_inside;
        owner_exists = λ c o mine.
            elim (put_owned s.tables.object b absent c o mine) [ inl new ↦ absurd (true≢false (sym new)) | inr was ↦ sound.owner_exists c o was ];
      }
  tables_sound (CommandCall (DirectoryFamily (GrantPlain p b r))) e = still sound.directory
  tables_sound (CommandCall (DirectoryFamily (RevokePlain p b r))) e = still sound.directory
  tables_sound (CommandCall (DirectoryFamily (GrantPrivate p b q r))) e = still sound.directory
  tables_sound (CommandCall (DirectoryFamily (RevokePrivate p b q r))) e = still sound.directory
  tables_sound (CommandCall (DirectoryFamily (AddOwner w))) e =
      let range = ltb-true w 128 (passed (is_owner w) 1 (cond (not (s.tables.owner w)) 0 9) (lit< tt) e).0 in
      record {
        directory = sound.directory;
        owners_inside = λ o here. elim (put_cases s.tables.owner w o here) [ inl new ↦ omega arith | inr was ↦ sound.owners_inside o was ];
        owner_exists = λ b o mine. put_keeps s.tables.owner w o (sound.owner_exists b o mine);
      }
  tables_sound (CommandCall (DirectoryFamily (DeleteOwner w))) e = record {
    directory = sound.directory;
    owners_inside = λ o here. sound.owners_inside o (put_left s.tables.owner w o here).1;
    owner_exists = λ b o mine. let h = left_owned w o (s.tables.object b) mine in put_stays s.tables.owner w o h.1 (sound.owner_exists b o h.0);
  }
  tables_sound (CommandCall (ConsentFamily (Offer q d))) e = still sound.directory
  tables_sound (CommandCall (ConsentFamily (Retract q d))) e = still sound.directory
  tables_sound (CommandCall (ConsentFamily (Give o q d))) e = sound
  tables_sound (CommandCall (ConsentFamily (Withdraw o q d))) e = sound
  tables_sound (CommandCall (SessionFamily (Open x u))) e = still (step_sound s.tables.directory (OpenSession x u) sound.directory)
  tables_sound (CommandCall (SessionFamily (End x))) e = still (step_sound s.tables.directory (EndSession x) sound.directory)
  tables_sound (CommandCall (SessionFamily (ActivateRole x r))) e = still (step_sound s.tables.directory (ActivateRoleCall x r) sound.directory)
  tables_sound (CommandCall (SessionFamily (DropRole x r))) e = still (step_sound s.tables.directory (DropRoleCall x r) sound.directory)
  tables_sound (CommandCall (SessionFamily (AccessPlain x p b))) e = sound
  tables_sound (CommandCall (SessionFamily (UseCommand x p b q))) e = sound
  tables_sound (CommandCall (SessionFamily (Look x p b q))) e = sound
  tables_sound (CommandCall (QuestionFamily c)) e = sound
  tables_sound (Draw u) e = sound
  tables_sound (Enter o n) e = sound
  tables_sound (HandBack o n) e = sound
  tables_sound (Ledger o) e = sound

pub next_tables : (k : Bounds) (s : State) (c : Call) → SoundTables s.tables → SoundTables (if_accepted (number k (view s) c) (tables_after s.tables c) s.tables)
next_tables k s c sound = accepted_or_not SoundTables (number k (view s) c) (tables_after s.tables c) s.tables sound (tables_sound k s sound c)
