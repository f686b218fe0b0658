-- The state that a directory's tables mean.
use Rattle.std.specs.Prelude.{ℕ, Bool, List, is_some, Some, None, Option, slice_index_or}
use Rattle.bits.specs.Sets.{members, none}
use Rattle.bits.specs.declared.set.BitSet.{BitSet}
use Rattle.bits.specs.declared.set.Role.{Role}
use Rattle.hierarchy.specs.Inheritance.{pairs_in}
use Rattle.directory.specs.State.{SessionState, closed, opened, DirectoryState}
use Rattle.directory.specs.declared.session.Session.{Session}
use Rattle.directory.specs.declared.directory.Directory.{Directory}

-- the roles that a user is assigned to, who has none where there is no such user
abbrev pub roles_in : Option (BitSet ℕ Role) → ℕ → Bool
roles_in None = none
roles_in (Some roles) = members roles

abbrev pub session_state : Option Session → SessionState
session_state None = closed
session_state (Some s) = opened s.user (members s.active)

-- the tables, read at every number
abbrev pub exist_in : List (Option (BitSet ℕ Role)) → ℕ → Bool
exist_in users u = is_some (slice_index_or users u None)

abbrev pub assigned_in : List (Option (BitSet ℕ Role)) → ℕ → ℕ → Bool
assigned_in users u = roles_in (slice_index_or users u None)

abbrev pub sessions_in : List (Option Session) → ℕ → SessionState
sessions_in sessions s = session_state (slice_index_or sessions s None)

abbrev pub state_of : Directory → DirectoryState
state_of d = record {
  user = exist_in d.users;
  role = members d.roles;
  assigned = assigned_in d.users;
  inherits = pairs_in d.hierarchy.juniors;
  session = sessions_in d.sessions;
}
