-- Sessions that end one after another.
use Rattle.std.proofs.Common.{◌≡◌, ℕ, ◌≤◌, Bool, true, false, cond, None, Option, List, length, sym, refl, ap, ◌∙◌}
use Rattle.std.proofs.lemmas.List.{get_or_past}
use Rattle.directory.specs.State.{SessionState, closed}
use Rattle.directory.specs.View.{session_state, sessions_in}
use Rattle.directory.specs.declared.session.Session.{Session}

-- a session is closed if it is meant
abbrev pub closed_if : (ℕ → Bool) → ℕ → SessionState → SessionState
closed_if which s x = cond (which s) closed x

pub closed_if_meant : (which : ℕ → Bool) (s : ℕ) (x : SessionState) → which s ≡ true → closed ≡ closed_if which s x
closed_if_meant which s x e = simp e

pub closed_if_not_meant : (which : ℕ → Bool) (s : ℕ) (x : SessionState) → which s ≡ false → closed_if which s x ≡ x
closed_if_not_meant which s x e = simp e

-- past the table every session is closed already
pub closed_past : (which : ℕ → Bool) (all : List (Option Session)) (s : ℕ) → length all ≤ s → closed_if which s (sessions_in all s) ≡ sessions_in all s
closed_past which all s past =
    let none = ap session_state (get_or_past all s None past) in
    ap (closed_if which s) none ∙ same (which s) ∙ sym none
  where
    same : (b : Bool) → cond b closed closed ≡ closed
    same true = refl
    same false = refl
