-- The register's triples stay those of the account.
use Rattle.std.proofs.Common.{◌≡◌, ℕ, Bool, true, false, cond, ◌&&◌, eqb, sym, refl, subst, lit<}
use mathlib.Core.Path.{fun_ext}
use Rattle.vocabulary.specs.Questions.{first_no}
use Rattle.vocabulary.proofs.Questions.{passed}
use Rattle.register.specs.Meaning.{Consents, Register, same, put_one, no_owner, no_pair}
use Rattle.register.specs.Answers.{give_answer, withdraw_answer, after_give, after_withdraw, after_erase, after_strike}
use Rattle.calls.specs.declared.command.Command.TheVariants.{Directory as DirectoryFamily, Consent as ConsentFamily, Session as SessionFamily, Question as QuestionFamily}
use Rattle.calls.specs.declared.command.Directory.TheVariants.{AddUser, DeleteUser, AddRole, DeleteRole, Assign, Deassign, AddInheritance, DeleteInheritance, AddPlainObject, AddPersonalObject, DeleteObject, GrantPlain, RevokePlain, GrantPrivate, RevokePrivate, AddOwner, DeleteOwner}
use Rattle.calls.specs.declared.command.Consent.TheVariants.{Offer, Retract, Give, Withdraw}
use Rattle.rules.specs.State.{Bounds}
use Rattle.rules.specs.Views.{View, register_in}
use Rattle.rules.specs.Numbers.{is_purpose, is_type, is_owner, give_asked, withdraw_asked, number}
use Rattle.rules.specs.Effects.{register_after}
use Rattle.rules.specs.declared.call.Call.{Call}
use Rattle.rules.specs.declared.call.Call.TheVariants.{Command as CommandCall, Draw, Enter, HandBack, Ledger}
use Rattle.law.specs.Account.{Bearing, gives, ends, leaves, latest, bears}
use Rattle.law.proofs.Accepted.{both_accepted, give_passed, withdraw_passed}

-- what the register's entries are after an accepted call, and that its limit never changes
pub record Borne (m new : Register) (c : Call) : Type 0 where
  pub entries : new.entries ≡ (λ o q t. latest (bears c o q t) (m.entries o q t))
  pub limit : new.limit ≡ m.limit

given : (m : Register) (o q t : ℕ) → give_answer m o q t ≡ 0 → after_give m o q t ≡ record { limit = m.limit; entries = put_one o q t true m.entries }
given m o q t e =
    let p = give_passed m o q t e in
    let a = p.0 in let b = p.1 in let c = p.2 in
    simp (a, b, c)

withdrawn : (m : Register) (o q t : ℕ) → withdraw_answer m o q t ≡ 0 → after_withdraw m o q t ≡ record { limit = m.limit; entries = put_one o q t false m.entries }
withdrawn m o q t e =
    let p = withdraw_passed m o q t e in
    let a = p.0 in let b = p.1 in
    simp (a, b)

-- one entry put, as the account has it
put_borne : (x : Bool) (y : Bearing) → ((b before : Bool) → cond b x before ≡ latest (cond b y leaves) before) → (f : Consents) (o q t : ℕ) → put_one o q t x f ≡ (λ k i j. latest (cond (same o q t k i j) y leaves) (f k i j))
unfolding put_one
put_borne x y is f o q t = fun_ext (λ k. fun_ext (λ i. fun_ext (λ j. is (same o q t k i j) (f k i j))))

borne_by : (m new kept : Register) (c : Call) → new ≡ kept → Borne m kept c → Borne m new c
borne_by m new kept c e b = subst (λ r. Borne m r c) (sym e) b

-- a cond that chooses between a value and what was there is what the latest call says
chosen : (x : Bool) (y : Bearing) → ((before : Bool) → x ≡ latest y before) → (b before : Bool) → cond b x before ≡ latest (cond b y leaves) before
chosen x y is true before = is before
chosen x y is false before = refl

module _ (k : Bounds) (v : View) where
  pub borne : (c : Call) → number k v c ≡ 0 → Borne (register_in k v) (register_after (register_in k v) c) c
  unfolding put_one no_owner no_pair
  borne (CommandCall (DirectoryFamily (AddUser u))) e = record { entries = refl; limit = refl }
  borne (CommandCall (DirectoryFamily (DeleteUser u))) e = record { entries = refl; limit = refl }
  borne (CommandCall (DirectoryFamily (AddRole r))) e = record { entries = refl; limit = refl }
  borne (CommandCall (DirectoryFamily (DeleteRole r))) e = record { entries = refl; limit = refl }
  borne (CommandCall (DirectoryFamily (Assign u r))) e = record { entries = refl; limit = refl }
  borne (CommandCall (DirectoryFamily (Deassign u r))) e = record { entries = refl; limit = refl }
  borne (CommandCall (DirectoryFamily (AddInheritance a d))) e = record { entries = refl; limit = refl }
  borne (CommandCall (DirectoryFamily (DeleteInheritance a d))) e = record { entries = refl; limit = refl }
  borne (CommandCall (DirectoryFamily (AddPlainObject b))) e = record { entries = refl; limit = refl }
  borne (CommandCall (DirectoryFamily (AddPersonalObject b o m))) e = record { entries = refl; limit = refl }
  borne (CommandCall (DirectoryFamily (DeleteObject b))) e = record { entries = refl; limit = refl }
  borne (CommandCall (DirectoryFamily (GrantPlain p b r))) e = record { entries = refl; limit = refl }
  borne (CommandCall (DirectoryFamily (RevokePlain p b r))) e = record { entries = refl; limit = refl }
  borne (CommandCall (DirectoryFamily (GrantPrivate p b q r))) e = record { entries = refl; limit = refl }
  borne (CommandCall (DirectoryFamily (RevokePrivate p b q r))) e = record { entries = refl; limit = refl }
  borne (CommandCall (DirectoryFamily (AddOwner o))) e = record { entries = refl; limit = refl }
  borne (CommandCall (DirectoryFamily (DeleteOwner o))) e =
      let range = (passed (is_owner o) 1 (cond (v.tables.owner o) 0 5) (lit< tt) e).0 in
      let is : after_erase (register_in k v) o ≡ record { limit = k.limit; entries = no_owner o v.word } = simp range in
      borne_by (register_in k v) _ _ _ is (record { entries = fun_ext (λ a. fun_ext (λ q. fun_ext (λ t. chosen false ends (λ _. refl) (eqb a o) (v.word a q t)))); limit = refl })
  borne (CommandCall (ConsentFamily (Offer q d))) e = record { entries = refl; limit = refl }
  borne (CommandCall (ConsentFamily (Retract q d))) e =
      let range = (passed (is_purpose q && is_type d) 1 (cond (v.tables.offered q d) 0 7) (lit< tt) e).0 in
      let is : after_strike (register_in k v) q d ≡ record { limit = k.limit; entries = no_pair q d v.word } = simp range in
      borne_by (register_in k v) _ _ _ is (record { entries = fun_ext (λ a. fun_ext (λ i. fun_ext (λ j. chosen false ends (λ _. refl) (eqb i q && eqb j d) (v.word a i j)))); limit = refl })
  borne (CommandCall (ConsentFamily (Give o q d))) e =
      let p = both_accepted (first_no (give_asked v.tables o q d)) (give_answer (register_in k v) o q d) e in
      borne_by (register_in k v) _ _ _ (given (register_in k v) o q d p.1) (record { entries = put_borne true gives (chosen true gives (λ _. refl)) v.word o q d; limit = refl })
  borne (CommandCall (ConsentFamily (Withdraw o q d))) e =
      let p = both_accepted (first_no (withdraw_asked v.tables o q d)) (withdraw_answer (register_in k v) o q d) e in
      borne_by (register_in k v) _ _ _ (withdrawn (register_in k v) o q d p.1) (record { entries = put_borne false ends (chosen false ends (λ _. refl)) v.word o q d; limit = refl })
  borne (CommandCall (SessionFamily c)) e = record { entries = refl; limit = refl }
  borne (CommandCall (QuestionFamily c)) e = record { entries = refl; limit = refl }
  borne (Draw u) e = record { entries = refl; limit = refl }
  borne (Enter o n) e = record { entries = refl; limit = refl }
  borne (HandBack o n) e = record { entries = refl; limit = refl }
  borne (Ledger o) e = record { entries = refl; limit = refl }
