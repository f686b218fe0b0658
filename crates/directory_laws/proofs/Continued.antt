-- What a call leaves of the sessions that were open before it.
use Rattle.std.proofs.Common.{◌≡◌, ℕ, zero, suc, Bool, true, false, cond, not, ◌&&◌, eqb, sym, refl, ap, ◌∙◌, subst, inl, inr, lit<}
use Rattle.std.proofs.lemmas.Bool.{cases_eq, both_ways, eq-eqb, ne_eqb, not-true, and_from, true≢false}
use Rattle.vocabulary.specs.Questions.{if_accepted}
use Rattle.bits.specs.Tables.{put}
use Rattle.vocabulary.specs.Tables.{only}
use Rattle.vocabulary.proofs.Questions.{passed, accepted_or_not}
use Rattle.bits.specs.Sets.{none}
use Rattle.directory.specs.State.{SessionState, closed, opened, DirectoryState, is_open, user_of, active_in, with_users, with_roles}
use Rattle.directory.specs.Sessions.{sessions_that, ended, reviewed}
use Rattle.directory.specs.Answers.{is_user, is_session, add_user_answer, delete_user_answer, add_role_answer, delete_role_answer, assign_answer, deassign_answer, add_inheritance_answer, delete_inheritance_answer, open_answer, end_answer, activate_answer, drop_answer}
use Rattle.directory.specs.Effects.{without_user, role_gone, put_assigned, put_inherits, put_session, switched}
use Rattle.directory.specs.declared.session.Which.TheVariants.{OfUser, Stale}
use Rattle.directory_laws.specs.Soundness.{names, Continues}
use Rattle.directory_laws.specs.Steps.{step_ends, after_step}
use Rattle.directory_laws.specs.declared.call.DirectoryCall.{DirectoryCall}
use Rattle.directory_laws.specs.declared.call.DirectoryCall.TheVariants.{AddUser, DeleteUser, AddRole, DeleteRole, Assign, Deassign, AddInheritance, DeleteInheritance, OpenSession, EndSession, ActivateRole, DropRole, Authorised}
use Rattle.vocabulary.proofs.Puts.{put_at, put_other}
use Rattle.directory_laws.proofs.Reviews.{after_end, that_open}

-- what becomes of one open session x: it is said to end, and is closed after the call, or it is y after it, open for the
-- same user with the same roles but for the named ones
pub record Becomes (x y : SessionState) (ends : Bool) (named : ℕ → Bool) : Type 0 where
  pub was_open : ends ≡ true → is_open x ≡ true
  pub closes : ends ≡ true → is_open y ≡ false
  pub stays : is_open x ≡ true → ends ≡ false → is_open y ≡ true
  pub user : is_open x ≡ true → ends ≡ false → user_of y ≡ user_of x
  pub roles : is_open x ≡ true → ends ≡ false → (r : ℕ) → named r ≡ false → active_in y r ≡ active_in x r

-- nothing happens to it
goes_on : (x : SessionState) (named : ℕ → Bool) → Becomes x x false named
goes_on x named = record {
  was_open = λ e. absurd (true≢false (sym e));
  closes = λ e. absurd (true≢false (sym e));
  stays = λ on _. on;
  user = λ _ _. refl;
  roles = λ _ _ r _. refl;
}

-- it ends
closes : (x : SessionState) (named : ℕ → Bool) → is_open x ≡ true → Becomes x closed true named
closes x named on = record {
  was_open = λ _. on;
  closes = λ _. refl;
  stays = λ _ e. absurd (true≢false e);
  user = λ _ e. absurd (true≢false e);
  roles = λ _ e. absurd (true≢false e);
}

-- one of its roles is switched
switches : (r : ℕ) (on : Bool) (x : SessionState) (named : ℕ → Bool) → named r ≡ true → Becomes x (switched r on x) false named
switches r on closed named it = goes_on closed named
switches r on (opened u active) named it = record {
  was_open = λ e. absurd (true≢false (sym e));
  closes = λ e. absurd (true≢false (sym e));
  stays = λ _ _. refl;
  user = λ _ _. refl;
  roles = λ _ _ k other. put_other r active on k (λ here. both_ways (named k) other (ap named here ∙ it));
}

-- a closed session may become anything
opens : (x y : SessionState) (named : ℕ → Bool) → is_open x ≡ false → Becomes x y false named
opens x y named off = record {
  was_open = λ e. absurd (true≢false (sym e));
  closes = λ e. absurd (true≢false (sym e));
  stays = λ on. absurd (both_ways (is_open x) off on);
  user = λ on. absurd (both_ways (is_open x) off on);
  roles = λ on. absurd (both_ways (is_open x) off on);
}

-- a call that changes no session
untouched : (d : DirectoryState) (c : DirectoryCall) (s : ℕ) (n : ℕ) (new : DirectoryState) → new.session s ≡ d.session s → Becomes (d.session s) ((if_accepted n new d).session s) false (names c s)
untouched d c s n new e =
    accepted_or_not (λ after. Becomes (d.session s) (after.session s) false (names c s)) n new d (goes_on (d.session s) (names c s))
    (λ _. subst (λ y. Becomes (d.session s) y false (names c s)) (sym e) (goes_on (d.session s) (names c s)))

-- a call that ends some open sessions and changes no other
some_end : (d : DirectoryState) (named : ℕ → Bool) (s n : ℕ) (which : ℕ → Bool) (new : DirectoryState)
    → (which s ≡ true → is_open (d.session s) ≡ true)
    → (new.session s ≡ (ended which d).session s)
    → Becomes (d.session s) ((if_accepted n new d).session s) (if_accepted n which none s) named
some_end d named s zero which new open-ones e =
    elim (after_end which d s) [
      | inl h ↦ subst (λ y. Becomes (d.session s) y (which s) named) (sym (e ∙ h.1)) (subst (λ b. Becomes (d.session s) closed b named) (sym h.0) (closes (d.session s) named (open-ones h.0)))
      | inr h ↦ subst (λ y. Becomes (d.session s) y (which s) named) (sym (e ∙ h.1)) (subst (λ b. Becomes (d.session s) (d.session s) b named) (sym h.0) (goes_on (d.session s) named))
    ]
some_end d named s (suc n) which new open-ones e = goes_on (d.session s) named

-- a call that changes other tables and then reviews the sessions
reviewed_ends : (d : DirectoryState) (c : DirectoryCall) (s n : ℕ) (new : DirectoryState) → new.session ≡ d.session
    → Becomes (d.session s) ((if_accepted n (reviewed new) d).session s) (if_accepted n (sessions_that new Stale) none s) (names c s)
unfolding ended
reviewed_ends d c s n new same =
    some_end d (names c s) s n (sessions_that new Stale) (reviewed new)
    (λ e. ap (λ f. is_open (f s)) (sym same) ∙ that_open new Stale s e)
    (ap (λ f. cond (sessions_that new Stale s) closed (f s)) same)

-- a call that puts one session, t, to another value
one_put : (d : DirectoryState) (named : ℕ → Bool) (s t n : ℕ) (x : SessionState)
    → (n ≡ 0 → s ≡ t → Becomes (d.session s) x false named)
    → Becomes (d.session s) ((if_accepted n (put_session t x d) d).session s) false named
one_put d named s t n x here =
    accepted_or_not (λ after. Becomes (d.session s) (after.session s) false named) n (put_session t x d) d (goes_on (d.session s) named)
    (λ ok. elim (cases_eq s t) [
      | inl it ↦ subst (λ y. Becomes (d.session s) y false named) (sym (put_at t d.session x s it)) (here ok it)
      | inr other ↦ subst (λ y. Becomes (d.session s) y false named) (sym (put_other t d.session x s other)) (goes_on (d.session s) named)
    ])

-- the session that is switched is named with its role
named_role : (s t r : ℕ) → s ≡ t → (eqb s t && eqb r r) ≡ true
named_role s t r e = and_from (eqb s t) (eqb r r) (eq-eqb s t e) (eq-eqb r r refl)

-- a session that is opened was closed
was_closed : (d : DirectoryState) (t u : ℕ) → open_answer d t u ≡ 0 → is_open (d.session t) ≡ false
was_closed d t u ok =
    let range = passed (is_session t && is_user u) 1 (cond (d.user u) (cond (not (is_open (d.session t))) 0 9) 2) (lit< tt) ok in
    let user = passed (d.user u) 2 (cond (not (is_open (d.session t))) 0 9) (lit< tt) range.1 in
    not-true (is_open (d.session t)) (passed (not (is_open (d.session t))) 9 0 (lit< tt) user.1).0

-- a session that is ended was open
was_open : (d : DirectoryState) (t : ℕ) → end_answer d t ≡ 0 → is_open (d.session t) ≡ true
was_open d t ok =
    let range = passed (is_session t) 1 (cond (is_open (d.session t)) 0 6) (lit< tt) ok in
    (passed (is_open (d.session t)) 6 0 (lit< tt) range.1).0

-- the end of the session t
one_ends : (d : DirectoryState) (named : ℕ → Bool) (s t n : ℕ) → (n ≡ 0 → is_open (d.session t) ≡ true) → Becomes (d.session s) ((if_accepted n (put_session t closed d) d).session s) (if_accepted n (only t) none s) named
one_ends d named s t zero on =
    elim (cases_eq s t) [
      | inl it ↦
          let y = put_at t d.session closed s it in
          let b = eq-eqb s t it in
          subst (λ z. Becomes (d.session s) z (eqb s t) named) (sym y)
          (subst (λ e. Becomes (d.session s) closed e named) (sym b) (closes (d.session s) named (ap (λ k. is_open (d.session k)) it ∙ on refl)))
      | inr other ↦
          let y = put_other t d.session closed s other in
          let b = ne_eqb s t other in
          subst (λ z. Becomes (d.session s) z (eqb s t) named) (sym y)
          (subst (λ e. Becomes (d.session s) (d.session s) e named) (sym b) (goes_on (d.session s) named))
    ]
one_ends d named s t (suc n) on = goes_on (d.session s) named

-- a role of the session t is switched
one_switches : (d : DirectoryState) (c : DirectoryCall) (s t r n : ℕ) (on : Bool) → (s ≡ t → names c s r ≡ true) → Becomes (d.session s) ((if_accepted n (put_session t (switched r on (d.session t)) d) d).session s) false (names c s)
one_switches d c s t r n on it-is =
    one_put d (names c s) s t n (switched r on (d.session t))
    (λ _ it. subst (λ k. Becomes (d.session s) (switched r on (d.session k)) false (names c s)) it (switches r on (d.session s) (names c s) (it-is it)))

becomes : (d : DirectoryState) (c : DirectoryCall) (s : ℕ) → Becomes (d.session s) ((after_step d c).session s) (step_ends d c s) (names c s)
unfolding ended
becomes d (AddUser u) s = untouched d (AddUser u) s (add_user_answer d u) (with_users (put u true d.user) d) refl
becomes d (DeleteUser u) s =
    some_end d (names (DeleteUser u) s) s (delete_user_answer d u) (sessions_that d (OfUser u)) (without_user u (ended (sessions_that d (OfUser u)) d)) (that_open d (OfUser u) s) refl
becomes d (AddRole r) s = untouched d (AddRole r) s (add_role_answer d r) (with_roles (put r true d.role) d) refl
becomes d (DeleteRole r) s = reviewed_ends d (DeleteRole r) s (delete_role_answer d r) (role_gone r d) refl
becomes d (Assign u r) s = untouched d (Assign u r) s (assign_answer d u r) (put_assigned u r true d) refl
becomes d (Deassign u r) s = reviewed_ends d (Deassign u r) s (deassign_answer d u r) (put_assigned u r false d) refl
becomes d (AddInheritance a b) s = untouched d (AddInheritance a b) s (add_inheritance_answer d a b) (put_inherits a b true d) refl
becomes d (DeleteInheritance a b) s = reviewed_ends d (DeleteInheritance a b) s (delete_inheritance_answer d a b) (put_inherits a b false d) refl
becomes d (OpenSession t u) s =
    one_put d (names (OpenSession t u) s) s t (open_answer d t u) (opened u none)
    (λ ok it. opens (d.session s) (opened u none) (names (OpenSession t u) s) (ap (λ k. is_open (d.session k)) it ∙ was_closed d t u ok))
becomes d (EndSession t) s = one_ends d (names (EndSession t) s) s t (end_answer d t) (was_open d t)
becomes d (ActivateRole t r) s = one_switches d (ActivateRole t r) s t r (activate_answer d t r) true (named_role s t r)
becomes d (DropRole t r) s = one_switches d (DropRole t r) s t r (drop_answer d t r) false (named_role s t r)
becomes d (Authorised u r) s = goes_on (d.session s) (names (Authorised u r) s)

pub continues : (d : DirectoryState) (c : DirectoryCall) → Continues d c
continues d c = record {
  only_open = λ s. (becomes d c s).was_open;
  session = λ s on. let b = becomes d c s in record {
    ends = b.closes;
    stays = b.stays on;
    user = b.user on;
    roles = b.roles on;
  };
}
