-- What is true of a directory after every list of calls, and what a call leaves of each session.
use Rattle.std.specs.Prelude.{◌≡◌, ℕ, ◌<◌, Bool, true, false, ◌&&◌, ◌==◌}
use Rattle.hierarchy.specs.Chains.{Above, Acyclic}
use Rattle.directory.specs.State.{DirectoryState, is_open, user_of, active_in}
use Rattle.directory_laws.specs.Steps.{step_ends, after_step}
use Rattle.directory_laws.specs.declared.call.DirectoryCall.{DirectoryCall}
use Rattle.directory_laws.specs.declared.call.DirectoryCall.TheVariants.{AddUser, DeleteUser, AddRole, DeleteRole, Assign, Deassign, AddInheritance, DeleteInheritance, OpenSession, EndSession, ActivateRole, DropRole, Authorised}

-- the user is assigned to a role that is above or equal to r
abbrev pub MayActivate : DirectoryState → ℕ → ℕ → Type 0
MayActivate d u r = (a : ℕ) × (d.assigned u a ≡ true) × Above d.inherits a r

pub record Sound (d : DirectoryState) : Type 0 where
  -- every active role of every session is one that its user is authorised for
  pub authorised : (s r : ℕ) → active_in (d.session s) r ≡ true → MayActivate d (user_of (d.session s)) r
  -- every session's user exists
  pub user_exists : (s : ℕ) → is_open (d.session s) ≡ true → d.user (user_of (d.session s)) ≡ true
  -- assignments and inheritances name only existing users and roles
  pub assigned_exist : (u r : ℕ) → d.assigned u r ≡ true → (d.user u ≡ true) × (d.role r ≡ true)
  pub inherits_exist : (a b : ℕ) → d.inherits a b ≡ true → (d.role a ≡ true) × (d.role b ≡ true)
  -- no role is above itself by a chain
  pub acyclic : Acyclic d.inherits
  -- what exists is in range
  pub users_inside : (u : ℕ) → d.user u ≡ true → u < 256
  pub roles_inside : (r : ℕ) → d.role r ≡ true → r < 64
  pub sessions_inside : (s : ℕ) → is_open (d.session s) ≡ true → s < 64

-- the call names this role in this session
abbrev pub names : DirectoryCall → ℕ → ℕ → Bool
names (AddUser u) s r = false
names (DeleteUser u) s r = false
names (AddRole x) s r = false
names (DeleteRole x) s r = false
names (Assign u x) s r = false
names (Deassign u x) s r = false
names (AddInheritance a b) s r = false
names (DeleteInheritance a b) s r = false
names (OpenSession t u) s r = false
names (EndSession t) s r = false
names (ActivateRole t x) s r = s == t && r == x
names (DropRole t x) s r = s == t && r == x
names (Authorised u x) s r = false

-- what a call does to a session that is open before it: it ends, and is said to end, or it stays open
pub record Continued (d : DirectoryState) (c : DirectoryCall) (s : ℕ) : Type 0 where
  pub ends : step_ends d c s ≡ true → is_open ((after_step d c).session s) ≡ false
  pub stays : step_ends d c s ≡ false → is_open ((after_step d c).session s) ≡ true
  -- where it stays open it keeps its user, and its roles but for the one named
  pub user : step_ends d c s ≡ false → user_of ((after_step d c).session s) ≡ user_of (d.session s)
  pub roles : step_ends d c s ≡ false → (r : ℕ) → names c s r ≡ false → active_in ((after_step d c).session s) r ≡ active_in (d.session s) r

-- only open sessions end, and every open one ends or goes on
pub record Continues (d : DirectoryState) (c : DirectoryCall) : Type 0 where
  pub only_open : (s : ℕ) → step_ends d c s ≡ true → is_open (d.session s) ≡ true
  pub session : (s : ℕ) → is_open (d.session s) ≡ true → Continued d c s

-- the calls by which a user can lose a right
abbrev pub takes_away : DirectoryCall → Bool
takes_away (AddUser u) = false
takes_away (DeleteUser u) = false
takes_away (AddRole r) = false
takes_away (DeleteRole r) = true
takes_away (Assign u r) = false
takes_away (Deassign u r) = true
takes_away (AddInheritance a b) = false
takes_away (DeleteInheritance a b) = true
takes_away (OpenSession s u) = false
takes_away (EndSession s) = false
takes_away (ActivateRole s r) = false
takes_away (DropRole s r) = false
takes_away (Authorised u r) = false

-- by such a call a session ends exactly where one of its active roles is one that its user is no longer authorised for
pub record EndsByLoss (d : DirectoryState) (c : DirectoryCall) (s : ℕ) : Type 0 where
  pub lost : step_ends d c s ≡ true → (r : ℕ) × (active_in (d.session s) r ≡ true) × (MayActivate (after_step d c) (user_of (d.session s)) r → ⊥)
  pub kept : step_ends d c s ≡ false → (r : ℕ) → active_in (d.session s) r ≡ true → MayActivate (after_step d c) (user_of (d.session s)) r
