-- A review leaves only sessions whose roles their users are authorised for.
use Rattle.std.proofs.Common.{◌≡◌, ℕ, ◌<◌, Bool, true, false, ltb, ◌⊎◌, sym, refl, ap, ◌∙◌, subst, inl, inr}
use Rattle.std.proofs.lemmas.Bool.{cases_Bool, and_parts, lt-ltb, not-false, true≢false}
use Rattle.hierarchy.specs.Inheritance.{Pairs, Bounded}
use Rattle.hierarchy.specs.Chains.{Above, same, step, Acyclic}
use Rattle.hierarchy.specs.Reach.{reach_of}
use Rattle.hierarchy.proofs.Reaching.{reach_sound}
use Rattle.hierarchy.proofs.Subsets.{all_in_is}
use Rattle.directory.specs.State.{SessionState, closed, opened, DirectoryState, is_open, user_of, active_in}
use Rattle.directory.specs.Sessions.{is_stale, is_meant, sessions_that, ended, reviewed}
use Rattle.directory.specs.declared.session.Which.{Which}
use Rattle.directory.specs.declared.session.Which.TheVariants.{AllOpen, OfUser, Stale}
use Rattle.directory_laws.specs.Soundness.{MayActivate, Sound}

-- a session after some have ended: it has, or it is as it was
pub after_end : (which : ℕ → Bool) (d : DirectoryState) (s : ℕ) → ((which s ≡ true) × ((ended which d).session s ≡ closed)) ⊎ ((which s ≡ false) × ((ended which d).session s ≡ d.session s))
unfolding ended
after_end which d s = elim (cases_Bool (which s)) [ inl e ↦ inl (e, simp e) | inr e ↦ inr (e, simp e) ]

-- a session that is open has not ended, and is as it was
pub open_after : (which : ℕ → Bool) (d : DirectoryState) (s : ℕ) → is_open ((ended which d).session s) ≡ true → (which s ≡ false) × ((ended which d).session s ≡ d.session s)
open_after which d s e = elim (after_end which d s) [ inl h ↦ absurd (true≢false (sym e ∙ ap is_open h.1)) | inr h ↦ h ]

-- a session with an active role is open
pub active_open : (x : SessionState) (r : ℕ) → active_in x r ≡ true → is_open x ≡ true
active_open closed r e = e
active_open (opened u active) r e = refl

pub meant_open : (d : DirectoryState) (which : Which) (x : SessionState) → is_meant d which x ≡ true → is_open x ≡ true
meant_open d AllOpen x e = e
meant_open d (OfUser u) closed e = e
meant_open d (OfUser u) (opened v active) e = refl
meant_open d Stale closed e = e
meant_open d Stale (opened v active) e = refl

pub that_open : (d : DirectoryState) (which : Which) (s : ℕ) → sessions_that d which s ≡ true → is_open (d.session s) ≡ true
unfolding sessions_that
that_open d which s e = meant_open d which (d.session s) (and_parts (ltb s 64) (is_meant d which (d.session s)) e).1

-- a session of a number in range that is not among those that are meant
pub not_meant : (d : DirectoryState) (which : Which) (s : ℕ) → s < 64 → sessions_that d which s ≡ false → is_meant d which (d.session s) ≡ false
unfolding sessions_that
not_meant d which s inside e = let z = lt-ltb s 64 inside in simp z at e

-- everything but that active roles are authorised: that is what a review sees to
pub record Unreviewed (d : DirectoryState) : Type 0 where
  pub active_inside : (s r : ℕ) → active_in (d.session s) r ≡ true → r < 64
  pub user_exists : (s : ℕ) → is_open (d.session s) ≡ true → d.user (user_of (d.session s)) ≡ true
  pub assigned_exist : (u r : ℕ) → d.assigned u r ≡ true → (d.user u ≡ true) × (d.role r ≡ true)
  pub inherits_exist : (a b : ℕ) → d.inherits a b ≡ true → (d.role a ≡ true) × (d.role b ≡ true)
  pub acyclic : Acyclic d.inherits
  pub users_inside : (u : ℕ) → d.user u ≡ true → u < 256
  pub roles_inside : (r : ℕ) → d.role r ≡ true → r < 64
  pub sessions_inside : (s : ℕ) → is_open (d.session s) ≡ true → s < 64

above_inside : (pairs : Pairs) → Bounded pairs → (a r : ℕ) → a < 64 → Above pairs a r → r < 64
above_inside pairs bounded a r inside same = inside
above_inside pairs bounded a r inside (step {m = m} e w) = above_inside pairs bounded m r (bounded a m e).1 w

pub bounded : (d : DirectoryState) → Sound d → Bounded d.inherits
bounded d sound a b e = let h = sound.inherits_exist a b e in (sound.roles_inside a h.0, sound.roles_inside b h.1)

pub active_inside : (d : DirectoryState) → Sound d → (s r : ℕ) → active_in (d.session s) r ≡ true → r < 64
active_inside d sound s r e =
    let h = sound.authorised s r e in
    above_inside d.inherits (bounded d sound) h.0 r (sound.roles_inside h.0 (sound.assigned_exist _ h.0 h.1).1) h.2

-- an active role of a session that is not stale is one that its user is authorised for
pub kept_authorised : (d : DirectoryState) (x : SessionState) (r : ℕ) → is_stale d x ≡ false → r < 64 → active_in x r ≡ true → MayActivate d (user_of x) r
kept_authorised d closed r fresh inside e = absurd (true≢false (sym e))
kept_authorised d (opened u active) r fresh inside e =
    reach_sound d.inherits (d.assigned u) r (all_in_is active (reach_of d.inherits (d.assigned u)) (not-false _ fresh) r inside e)

module _ (d : DirectoryState) (was : Unreviewed d) where
  stale : ℕ → Bool
  stale = sessions_that d Stale

  kept : (s : ℕ) → is_open ((reviewed d).session s) ≡ true → (stale s ≡ false) × ((reviewed d).session s ≡ d.session s)
  unfolding stale
  kept s e = open_after (sessions_that d Stale) d s e

  pub review_sound : Sound (reviewed d)
  unfolding ended stale
  review_sound = record {
    authorised = λ s r e.
        let h = kept s (active_open _ r e) in
        let here : active_in (d.session s) r ≡ true = ap (λ x. active_in x r) (sym h.1) ∙ e in
        let inside = was.sessions_inside s (active_open _ r here) in
        subst (λ x. MayActivate d (user_of x) r) (sym h.1)
        (kept_authorised d (d.session s) r (not_meant d Stale s inside h.0) (was.active_inside s r here) here);
    user_exists = λ s e.
        let h = kept s e in
        subst (λ x. d.user (user_of x) ≡ true) (sym h.1) (was.user_exists s (ap is_open (sym h.1) ∙ e));
    assigned_exist = was.assigned_exist;
    inherits_exist = was.inherits_exist;
    acyclic = was.acyclic;
    users_inside = was.users_inside;
    roles_inside = was.roles_inside;
    sessions_inside = λ s e. let h = kept s e in was.sessions_inside s (ap is_open (sym h.1) ∙ e);
  }
