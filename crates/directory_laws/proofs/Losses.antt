-- A call that takes rights away ends exactly the sessions that have lost one.
use Rattle.std.proofs.Common.{◌≡◌, ℕ, zero, suc, true, false, ltb, sym, refl, ap, ◌∙◌, subst}
use Rattle.std.proofs.lemmas.Bool.{both_ways, and_parts, not-true, true≢false}
use Rattle.vocabulary.specs.Questions.{if_accepted}
use Rattle.bits.specs.Sets.{none}
use Rattle.hierarchy.specs.Inheritance.{Bounded}
use Rattle.hierarchy.specs.Reach.{reach_of}
use Rattle.hierarchy.proofs.Reaching.{reach_complete}
use Rattle.hierarchy.proofs.Subsets.{all_in_not}
use Rattle.directory.specs.State.{SessionState, closed, opened, DirectoryState, user_of, active_in}
use Rattle.directory.specs.Sessions.{is_stale, sessions_that, ended, reviewed}
use Rattle.directory.specs.Answers.{delete_role_answer, deassign_answer, delete_inheritance_answer}
use Rattle.directory.specs.Effects.{role_gone, put_assigned, put_inherits}
use Rattle.directory.specs.declared.session.Which.TheVariants.{Stale}
use Rattle.directory_laws.specs.Soundness.{MayActivate, Sound, takes_away, EndsByLoss}
use Rattle.directory_laws.specs.declared.call.DirectoryCall.{DirectoryCall}
use Rattle.directory_laws.specs.declared.call.DirectoryCall.TheVariants.{AddUser, DeleteUser, AddRole, DeleteRole, Assign, Deassign, AddInheritance, DeleteInheritance, OpenSession, EndSession, ActivateRole, DropRole, Authorised}
use Rattle.directory_laws.proofs.Reviews.{active_open, Unreviewed, kept_authorised, not_meant}
use Rattle.directory_laws.proofs.Sound.{role_is_gone, unassigned, disinherited}

bounded_by : (d : DirectoryState) → Unreviewed d → Bounded d.inherits
bounded_by d was a b e = let h = was.inherits_exist a b e in (was.roles_inside a h.0, was.roles_inside b h.1)

-- a stale session has an active role that its user is not authorised for
stale_lost : (d : DirectoryState) → Unreviewed d → (x : SessionState) → is_stale d x ≡ true → (r : ℕ) × (active_in x r ≡ true) × (MayActivate d (user_of x) r → ⊥)
stale_lost d was closed e = absurd (true≢false (sym e))
stale_lost d was (opened u active) e =
    let w = all_in_not active (reach_of d.inherits (d.assigned u)) (not-true _ e) in
    (w.0, w.1, λ may. both_ways _ w.2 (reach_complete d.inherits (bounded_by d was) was.acyclic (d.assigned u) w.0 may))

-- what the call does to the session s where it puts the tables to those of `new` and then reviews the sessions
module _ (d new : DirectoryState) (was : Unreviewed new) (before : Sound d) (same : new.session ≡ d.session) (s : ℕ) where
  lost : (n : ℕ) → if_accepted n (sessions_that new Stale) none s ≡ true
      → (r : ℕ) × (active_in (d.session s) r ≡ true) × (MayActivate (if_accepted n (reviewed new) d) (user_of (d.session s)) r → ⊥)
  unfolding ended sessions_that
  lost zero e =
      let stale : is_stale new (d.session s) ≡ true = ap (λ f. is_stale new (f s)) (sym same) ∙ (and_parts (ltb s 64) (is_stale new (new.session s)) e).1 in
      stale_lost new was (d.session s) stale
  lost (suc n) e = absurd (true≢false (sym e))

  kept : (n : ℕ) → if_accepted n (sessions_that new Stale) none s ≡ false
      → (r : ℕ) → active_in (d.session s) r ≡ true → MayActivate (if_accepted n (reviewed new) d) (user_of (d.session s)) r
  unfolding ended
  kept zero e r on =
      let here : active_in (new.session s) r ≡ true = ap (λ f. active_in (f s) r) same ∙ on in
      let inside = was.sessions_inside s (active_open (new.session s) r here) in
      subst (λ f. MayActivate new (user_of (f s)) r) same (kept_authorised new (new.session s) r (not_meant new Stale s inside e) (was.active_inside s r here) here)
  kept (suc n) e r on = before.authorised s r on

pub ends_by_loss : (d : DirectoryState) (c : DirectoryCall) (s : ℕ) → Sound d → takes_away c ≡ true → EndsByLoss d c s
ends_by_loss d (AddUser u) s sound e = absurd (true≢false (sym e))
ends_by_loss d (DeleteUser u) s sound e = absurd (true≢false (sym e))
ends_by_loss d (AddRole r) s sound e = absurd (true≢false (sym e))
ends_by_loss d (DeleteRole r) s sound e =
    let new = role_gone r d in
    let was = role_is_gone d sound r in
    record { lost = lost d new was sound refl s (delete_role_answer d r); kept = kept d new was sound refl s (delete_role_answer d r) }
ends_by_loss d (Assign u r) s sound e = absurd (true≢false (sym e))
ends_by_loss d (Deassign u r) s sound e =
    let new = put_assigned u r false d in
    let was = unassigned d sound u r in
    record { lost = lost d new was sound refl s (deassign_answer d u r); kept = kept d new was sound refl s (deassign_answer d u r) }
ends_by_loss d (AddInheritance a b) s sound e = absurd (true≢false (sym e))
ends_by_loss d (DeleteInheritance a b) s sound e =
    let new = put_inherits a b false d in
    let was = disinherited d sound a b in
    record { lost = lost d new was sound refl s (delete_inheritance_answer d a b); kept = kept d new was sound refl s (delete_inheritance_answer d a b) }
ends_by_loss d (OpenSession t u) s sound e = absurd (true≢false (sym e))
ends_by_loss d (EndSession t) s sound e = absurd (true≢false (sym e))
ends_by_loss d (ActivateRole t r) s sound e = absurd (true≢false (sym e))
ends_by_loss d (DropRole t r) s sound e = absurd (true≢false (sym e))
ends_by_loss d (Authorised u r) s sound e = absurd (true≢false (sym e))
