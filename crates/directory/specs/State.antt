-- What a directory holds, as functions of numbers.
use Rattle.std.specs.Prelude.{ℕ, Bool, true, false, ◌==◌}
use Rattle.hierarchy.specs.Inheritance.{Pairs}

-- a session is closed, or open for a user with its active roles
pub data SessionState : Type 0 where
  closed : SessionState
  opened : ℕ → (ℕ → Bool) → SessionState

pub record DirectoryState : Type 0 where
  -- who and what exists
  pub user : ℕ → Bool
  pub role : ℕ → Bool
  -- which user is assigned to which role
  pub assigned : ℕ → ℕ → Bool
  -- which role is put directly above which
  pub inherits : Pairs
  pub session : ℕ → SessionState

-- a directory with nothing in it
abbrev pub bare : DirectoryState
bare = record { user = λ _. false; role = λ _. false; assigned = λ _ _. false; inherits = λ _ _. false; session = λ _. closed }

abbrev pub is_open : SessionState → Bool
is_open closed = false
is_open (opened u active) = true

-- the user of an open session
abbrev pub user_of : SessionState → ℕ
user_of closed = 0
user_of (opened u active) = u

-- whether the session is the user's
abbrev pub is_of : ℕ → SessionState → Bool
is_of u closed = false
is_of u (opened v active) = v == u

abbrev pub active_in : SessionState → ℕ → Bool
active_in closed r = false
active_in (opened u active) r = active r

-- the state with one of its tables put in the place of the old one
abbrev pub with_users : (ℕ → Bool) → DirectoryState → DirectoryState
with_users f d = record { user = f; role = d.role; assigned = d.assigned; inherits = d.inherits; session = d.session }

abbrev pub with_roles : (ℕ → Bool) → DirectoryState → DirectoryState
with_roles f d = record { user = d.user; role = f; assigned = d.assigned; inherits = d.inherits; session = d.session }

abbrev pub with_assigned : (ℕ → ℕ → Bool) → DirectoryState → DirectoryState
with_assigned f d = record { user = d.user; role = d.role; assigned = f; inherits = d.inherits; session = d.session }

abbrev pub with_inherits : Pairs → DirectoryState → DirectoryState
with_inherits f d = record { user = d.user; role = d.role; assigned = d.assigned; inherits = f; session = d.session }

abbrev pub with_sessions : (ℕ → SessionState) → DirectoryState → DirectoryState
with_sessions f d = record { user = d.user; role = d.role; assigned = d.assigned; inherits = d.inherits; session = f }
