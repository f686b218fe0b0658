-- Every call leaves a sound directory sound.
use Rattle.std.proofs.Common.{◌≡◌, ℕ, ◌<◌, Bool, true, false, not, ◌&&◌, ◌||◌, eqb, ltb, ◌⊎◌, sym, refl, ap, ◌∙◌, subst, inl, inr, arith, lit<}
use Rattle.std.proofs.lemmas.Bool.{cases_eq, both_ways, and_parts, ltb-true, eq-eqb, not-true, or_parts, true≢false}
use Rattle.bits.specs.Tables.{put}
use Rattle.vocabulary.specs.Tables.{only}
use Rattle.vocabulary.proofs.Questions.{passed, accepted_or_not}
use Rattle.bits.specs.Sets.{none}
use Rattle.hierarchy.specs.Reach.{reach_of, above_or_equal}
use Rattle.hierarchy.specs.Edits.{put_pair, without_role}
use Rattle.hierarchy.proofs.Circles.{above_more, acyclic_put, acyclic_fewer, acyclic_none}
use Rattle.hierarchy.proofs.Reaching.{reach_sound, reach_complete}
use Rattle.hierarchy.proofs.Subsets.{all_in_only}
use Rattle.directory.specs.State.{SessionState, closed, opened, DirectoryState, bare, is_open, user_of, is_of, active_in, with_users, with_roles}
use Rattle.directory.specs.Sessions.{authorised, sessions_that, ended}
use Rattle.directory.specs.Effects.{without_user, role_gone, put_assigned, put_inherits, put_session, switched}
use Rattle.directory.specs.declared.session.Which.TheVariants.{OfUser}
use Rattle.directory_laws.specs.Soundness.{MayActivate, Sound}
use Rattle.directory_laws.specs.Steps.{after_step}
use Rattle.directory_laws.specs.declared.call.DirectoryCall.{DirectoryCall}
use Rattle.directory_laws.specs.declared.call.DirectoryCall.TheVariants.{AddUser, DeleteUser, AddRole, DeleteRole, Assign, Deassign, AddInheritance, DeleteInheritance, OpenSession, EndSession, ActivateRole, DropRole, Authorised}
use Rattle.vocabulary.proofs.Puts.{put_at, put_other, put_keeps, put_cases, put_left, put_stays, put_two_keeps, put_two_cases, put_two_left}
use Rattle.directory_laws.proofs.Reviews.{open_after, active_open, not_meant, Unreviewed, bounded, active_inside, review_sound}

pub bare_sound : Sound bare
bare_sound = record {
  authorised = λ s r e. absurd (true≢false (sym e));
  user_exists = λ s e. absurd (true≢false (sym e));
  assigned_exist = λ u r e. absurd (true≢false (sym e));
  inherits_exist = λ a b e. absurd (true≢false (sym e));
  acyclic = acyclic_none;
  users_inside = λ u e. absurd (true≢false (sym e));
  roles_inside = λ r e. absurd (true≢false (sym e));
  sessions_inside = λ s e. absurd (true≢false (sym e));
}

-- where the user of a session is another, the session is not that user's
not_of : (u : ℕ) (x : SessionState) → is_open x ≡ true → is_of u x ≡ false → user_of x ≡ u → ⊥
not_of u closed e f g = true≢false (sym e)
not_of u (opened v active) e f g = both_ways (eqb v u) f (eq-eqb v u g)

module _ (d : DirectoryState) (sound : Sound d) where
  add_user : (u : ℕ) → u < 256 → Sound (with_users (put u true d.user) d)
  add_user u inside = record {
    authorised = sound.authorised;
    user_exists = λ s e. put_keeps d.user u _ (sound.user_exists s e);
    assigned_exist = λ v r e. let h = sound.assigned_exist v r e in (put_keeps d.user u v h.0, h.1);
    inherits_exist = sound.inherits_exist;
    acyclic = sound.acyclic;
    users_inside = λ v e. elim (put_cases d.user u v e) [ inl here ↦ omega arith | inr was ↦ sound.users_inside v was ];
    roles_inside = sound.roles_inside;
    sessions_inside = sound.sessions_inside;
  }

  add_role : (r : ℕ) → r < 64 → Sound (with_roles (put r true d.role) d)
  add_role r inside = record {
    authorised = sound.authorised;
    user_exists = sound.user_exists;
    assigned_exist = λ v x e. let h = sound.assigned_exist v x e in (h.0, put_keeps d.role r x h.1);
    inherits_exist = λ a b e. let h = sound.inherits_exist a b e in (put_keeps d.role r a h.0, put_keeps d.role r b h.1);
    acyclic = sound.acyclic;
    users_inside = sound.users_inside;
    roles_inside = λ x e. elim (put_cases d.role r x e) [ inl here ↦ omega arith | inr was ↦ sound.roles_inside x was ];
    sessions_inside = sound.sessions_inside;
  }

  -- a session that is open when the user u is gone was open before, and is another user's
  others : (u s : ℕ) → is_open ((ended (sessions_that d (OfUser u)) d).session s) ≡ true
      → ((ended (sessions_that d (OfUser u)) d).session s ≡ d.session s) × (is_open (d.session s) ≡ true) × (user_of (d.session s) ≡ u → ⊥)
  others u s e =
      let h = open_after (sessions_that d (OfUser u)) d s e in
      let here : is_open (d.session s) ≡ true = ap is_open (sym h.1) ∙ e in
      (h.1, here, not_of u (d.session s) here (not_meant d (OfUser u) s (sound.sessions_inside s here) h.0))

  -- an assignment that is there when the user u is gone is another user's
  assigned_other : (u v r : ℕ) → put u none d.assigned v r ≡ true → (v ≡ u → ⊥) × (d.assigned v r ≡ true)
  assigned_other u v r e =
      elim (cases_eq v u) [
        | inl here ↦ absurd (true≢false (sym e ∙ ap (λ f. f r) (put_at u d.assigned none v here)))
        | inr other ↦ (other, sym (ap (λ f. f r) (put_other u d.assigned none v other)) ∙ e)
      ]

  delete_user : (u : ℕ) → Sound (without_user u (ended (sessions_that d (OfUser u)) d))
  unfolding ended
  delete_user u = record {
    authorised = λ s r e.
        let h = others u s (active_open _ r e) in
        let here : active_in (d.session s) r ≡ true = ap (λ x. active_in x r) (sym h.0) ∙ e in
        let may = sound.authorised s r here in
        subst (λ x. MayActivate (without_user u (ended (sessions_that d (OfUser u)) d)) (user_of x) r) (sym h.0)
        (may.0, ap (λ f. f may.0) (put_other u d.assigned none _ h.2) ∙ may.1, may.2);
    user_exists = λ s e.
        let h = others u s e in
        subst (λ x. put u false d.user (user_of x) ≡ true) (sym h.0) (put_stays d.user u _ h.2 (sound.user_exists s h.1));
    assigned_exist = λ v r e.
        let h = assigned_other u v r e in
        let was = sound.assigned_exist v r h.1 in
        (put_stays d.user u v h.0 was.0, was.1);
    inherits_exist = sound.inherits_exist;
    acyclic = sound.acyclic;
    users_inside = λ v e. sound.users_inside v (put_left d.user u v e).1;
    roles_inside = sound.roles_inside;
    sessions_inside = λ s e. let h = others u s e in sound.sessions_inside s h.1;
  }

  -- a pair that is there when the role r is gone names other roles
  pair_other : (r a b : ℕ) → without_role r d.inherits a b ≡ true → (d.inherits a b ≡ true) × (a ≡ r → ⊥) × (b ≡ r → ⊥)
  unfolding without_role
  pair_other r a b e =
      let h = and_parts (d.inherits a b) (not (eqb a r || eqb b r)) e in
      let k = or_parts (eqb a r) (eqb b r) (not-true _ h.1) in
      (h.0, (λ q. both_ways (eqb a r) k.0 (eq-eqb a r q)), (λ q. both_ways (eqb b r) k.1 (eq-eqb b r q)))

  pub role_is_gone : (r : ℕ) → Unreviewed (role_gone r d)
  role_is_gone r = record {
    active_inside = active_inside d sound;
    user_exists = sound.user_exists;
    assigned_exist = λ u x e.
        let h = put_left (d.assigned u) r x e in
        let was = sound.assigned_exist u x h.1 in
        (was.0, put_stays d.role r x h.0 was.1);
    inherits_exist = λ a b e.
        let h = pair_other r a b e in
        let was = sound.inherits_exist a b h.0 in
        (put_stays d.role r a h.1 was.0, put_stays d.role r b h.2 was.1);
    acyclic = acyclic_fewer d.inherits (without_role r d.inherits) (λ a b e. (pair_other r a b e).0) sound.acyclic;
    users_inside = sound.users_inside;
    roles_inside = λ x e. sound.roles_inside x (put_left d.role r x e).1;
    sessions_inside = sound.sessions_inside;
  }

  assign : (u r : ℕ) → d.user u ≡ true → d.role r ≡ true → Sound (put_assigned u r true d)
  assign u r user role = record {
    authorised = λ s x e. let h = sound.authorised s x e in (h.0, put_two_keeps d.assigned u r _ h.0 h.1, h.2);
    user_exists = sound.user_exists;
    assigned_exist = λ v x e.
        elim (put_two_cases d.assigned u r v x e) [
          | inl here ↦ (ap d.user here.0 ∙ user, ap d.role here.1 ∙ role)
          | inr was ↦ sound.assigned_exist v x was
        ];
    inherits_exist = sound.inherits_exist;
    acyclic = sound.acyclic;
    users_inside = sound.users_inside;
    roles_inside = sound.roles_inside;
    sessions_inside = sound.sessions_inside;
  }

  pub unassigned : (u r : ℕ) → Unreviewed (put_assigned u r false d)
  unassigned u r = record {
    active_inside = active_inside d sound;
    user_exists = sound.user_exists;
    assigned_exist = λ v x e. sound.assigned_exist v x (put_two_left d.assigned u r v x e);
    inherits_exist = sound.inherits_exist;
    acyclic = sound.acyclic;
    users_inside = sound.users_inside;
    roles_inside = sound.roles_inside;
    sessions_inside = sound.sessions_inside;
  }

  add_inheritance : (a b : ℕ) → d.role a ≡ true → d.role b ≡ true → above_or_equal d.inherits b a ≡ false → Sound (put_inherits a b true d)
  add_inheritance a b senior junior free = record {
    authorised = λ s x e.
        let h = sound.authorised s x e in
        (h.0, h.1, above_more d.inherits (put_pair a b true d.inherits) (put_two_keeps d.inherits a b) h.0 x h.2);
    user_exists = sound.user_exists;
    assigned_exist = sound.assigned_exist;
    inherits_exist = λ x y e.
        elim (put_two_cases d.inherits a b x y e) [
          | inl here ↦ (ap d.role here.0 ∙ senior, ap d.role here.1 ∙ junior)
          | inr was ↦ sound.inherits_exist x y was
        ];
    acyclic =
        acyclic_put d.inherits a b sound.acyclic
        (λ w. both_ways _ free (reach_complete d.inherits (bounded d sound) sound.acyclic (only b) a (b, eq-eqb b b refl, w)));
    users_inside = sound.users_inside;
    roles_inside = sound.roles_inside;
    sessions_inside = sound.sessions_inside;
  }

  pub disinherited : (a b : ℕ) → Unreviewed (put_inherits a b false d)
  disinherited a b = record {
    active_inside = active_inside d sound;
    user_exists = sound.user_exists;
    assigned_exist = sound.assigned_exist;
    inherits_exist = λ x y e. sound.inherits_exist x y (put_two_left d.inherits a b x y e);
    acyclic = acyclic_fewer d.inherits (put_pair a b false d.inherits) (λ x y e. put_two_left d.inherits a b x y e) sound.acyclic;
    users_inside = sound.users_inside;
    roles_inside = sound.roles_inside;
    sessions_inside = sound.sessions_inside;
  }

  -- one session put to another value, which is sound itself
  session_put : (s : ℕ) (x : SessionState) → s < 64 → (is_open x ≡ true → d.user (user_of x) ≡ true) → ((r : ℕ) → active_in x r ≡ true → MayActivate d (user_of x) r) → Sound (put_session s x d)
  session_put s x inside user roles = record {
    authorised = λ k r.
        elim (cases_eq k s) [
          | inl here ↦ subst (λ y. active_in y r ≡ true → MayActivate d (user_of y) r) (sym (put_at s d.session x k here)) (roles r)
          | inr other ↦ subst (λ y. active_in y r ≡ true → MayActivate d (user_of y) r) (sym (put_other s d.session x k other)) (sound.authorised k r)
        ];
    user_exists = λ k.
        elim (cases_eq k s) [
          | inl here ↦ subst (λ y. is_open y ≡ true → d.user (user_of y) ≡ true) (sym (put_at s d.session x k here)) user
          | inr other ↦ subst (λ y. is_open y ≡ true → d.user (user_of y) ≡ true) (sym (put_other s d.session x k other)) (sound.user_exists k)
        ];
    assigned_exist = sound.assigned_exist;
    inherits_exist = sound.inherits_exist;
    acyclic = sound.acyclic;
    users_inside = sound.users_inside;
    roles_inside = sound.roles_inside;
    sessions_inside = λ k e.
        elim (cases_eq k s) [
          | inl here ↦ omega arith
          | inr other ↦ sound.sessions_inside k (ap is_open (sym (put_other s d.session x k other)) ∙ e)
        ];
  }

-- the user of a session stays when a role is switched
switched_user : (r : ℕ) (on : Bool) (x : SessionState) → user_of (switched r on x) ≡ user_of x
switched_user r on closed = refl
switched_user r on (opened u active) = refl

switched_open : (r : ℕ) (on : Bool) (x : SessionState) → is_open (switched r on x) ≡ is_open x
switched_open r on closed = refl
switched_open r on (opened u active) = refl

-- a role that is active after one was switched on is that one, or was active
switched_on : (r k : ℕ) (x : SessionState) → active_in (switched r true x) k ≡ true → (k ≡ r) ⊎ (active_in x k ≡ true)
switched_on r k closed e = absurd (true≢false (sym e))
switched_on r k (opened u active) e = put_cases active r k e

switched_off : (r k : ℕ) (x : SessionState) → active_in (switched r false x) k ≡ true → active_in x k ≡ true
switched_off r k closed e = e
switched_off r k (opened u active) e = (put_left active r k e).1

-- what the range question tells of its two numbers
within_range : (a b m n : ℕ) → (ltb a m && ltb b n) ≡ true → (a < m) × (b < n)
within_range a b m n e = let h = and_parts (ltb a m) (ltb b n) e in (ltb-true a m h.0, ltb-true b n h.1)

-- a role for which the answer says that the user is authorised
authorised_one : (d : DirectoryState) (u r : ℕ) → r < 64 → authorised d u (only r) ≡ true → MayActivate d u r
authorised_one d u r inside e = reach_sound d.inherits (d.assigned u) r (sym (all_in_only (reach_of d.inherits (d.assigned u)) r inside) ∙ e)

pub step_sound : (d : DirectoryState) (c : DirectoryCall) → Sound d → Sound (after_step d c)
step_sound d (AddUser u) sound =
    accepted_or_not Sound _ _ d sound (λ e. add_user d sound u (ltb-true u 256 (passed _ 1 _ (lit< tt) e).0))
step_sound d (DeleteUser u) sound = accepted_or_not Sound _ _ d sound (λ e. delete_user d sound u)
step_sound d (AddRole r) sound =
    accepted_or_not Sound _ _ d sound (λ e. add_role d sound r (ltb-true r 64 (passed _ 1 _ (lit< tt) e).0))
step_sound d (DeleteRole r) sound = accepted_or_not Sound _ _ d sound (λ e. review_sound (role_gone r d) (role_is_gone d sound r))
step_sound d (Assign u r) sound =
    accepted_or_not Sound _ _ d sound (λ e.
    let range = passed _ 1 _ (lit< tt) e in
    let user = passed _ 2 _ (lit< tt) range.1 in
    let role = passed _ 3 _ (lit< tt) user.1 in
    assign d sound u r user.0 role.0)
step_sound d (Deassign u r) sound = accepted_or_not Sound _ _ d sound (λ e. review_sound (put_assigned u r false d) (unassigned d sound u r))
step_sound d (AddInheritance a b) sound =
    accepted_or_not Sound _ _ d sound (λ e.
    let range = passed _ 1 _ (lit< tt) e in
    let role = passed _ 3 _ (lit< tt) range.1 in
    let absent = passed _ 9 _ (lit< tt) role.1 in
    let free = passed _ 11 _ (lit< tt) absent.1 in
    let both = and_parts (d.role a) (d.role b) role.0 in
    add_inheritance d sound a b both.0 both.1 (not-true _ free.0))
step_sound d (DeleteInheritance a b) sound = accepted_or_not Sound _ _ d sound (λ e. review_sound (put_inherits a b false d) (disinherited d sound a b))
step_sound d (OpenSession s u) sound =
    accepted_or_not Sound _ _ d sound (λ e.
    let range = passed _ 1 _ (lit< tt) e in
    let user = passed _ 2 _ (lit< tt) range.1 in
    session_put d sound s (opened u none) (within_range s u 64 256 range.0).0 (λ _. user.0) (λ r on. absurd (true≢false (sym on))))
step_sound d (EndSession s) sound =
    accepted_or_not Sound _ _ d sound (λ e.
    session_put d sound s closed (ltb-true s 64 (passed _ 1 _ (lit< tt) e).0) (λ on. absurd (true≢false (sym on))) (λ r on. absurd (true≢false (sym on))))
step_sound d (ActivateRole s r) sound =
    accepted_or_not Sound _ _ d sound (λ e.
    let range = passed _ 1 _ (lit< tt) e in
    let role = passed (d.role r) 3 _ (lit< tt) range.1 in
    let session = passed (is_open (d.session s)) 6 _ (lit< tt) role.1 in
    let absent = passed (not (active_in (d.session s) r)) 9 _ (lit< tt) session.1 in
    let may = passed _ 12 0 (lit< tt) absent.1 in
    let inside = within_range s r 64 64 range.0 in
    let x = d.session s in
    session_put d sound s (switched r true x) inside.0
    (λ on. ap d.user (switched_user r true x) ∙ sound.user_exists s (sym (switched_open r true x) ∙ on))
    (λ k on. subst (λ u. MayActivate d u k) (sym (switched_user r true x)) (elim (switched_on r k x on) [
      | inl here ↦ subst (λ j. MayActivate d (user_of x) j) (sym here) (authorised_one d (user_of x) r inside.1 may.0)
      | inr was ↦ sound.authorised s k was
    ])))
step_sound d (DropRole s r) sound =
    accepted_or_not Sound _ _ d sound (λ e.
    let inside = within_range s r 64 64 (passed _ 1 _ (lit< tt) e).0 in
    let x = d.session s in
    session_put d sound s (switched r false x) inside.0
    (λ on. ap d.user (switched_user r false x) ∙ sound.user_exists s (sym (switched_open r false x) ∙ on))
    (λ k on. subst (λ u. MayActivate d u k) (sym (switched_user r false x)) (sound.authorised s k (switched_off r k x on))))
step_sound d (Authorised u r) sound = sound
