-- What each call leaves, and which sessions it ends. A refused call leaves everything as it was and ends none.
use Rattle.std.specs.Prelude.{ℕ, Bool, true, false}
use Rattle.vocabulary.specs.Questions.{if_accepted}
use Rattle.bits.specs.Tables.{put}
use Rattle.vocabulary.specs.Tables.{only}
use Rattle.bits.specs.Sets.{none}
use Rattle.hierarchy.specs.Edits.{put_pair, without_role}
use Rattle.directory.specs.State.{SessionState, closed, opened, DirectoryState, with_users, with_roles, with_assigned, with_inherits, with_sessions}
use Rattle.directory.specs.Sessions.{sessions_that, ended, reviewed}
use Rattle.directory.specs.Answers.{add_user_answer, delete_user_answer, add_role_answer, delete_role_answer, assign_answer, deassign_answer, add_inheritance_answer, delete_inheritance_answer, open_answer, end_answer, activate_answer, drop_answer}
use Rattle.directory.specs.declared.session.Which.TheVariants.{OfUser, Stale}

abbrev pub after_add_user : DirectoryState → ℕ → DirectoryState
after_add_user d u = if_accepted (add_user_answer d u) (with_users (put u true d.user) d) d

-- the user and the user's assignments are gone
abbrev pub without_user : ℕ → DirectoryState → DirectoryState
without_user u d = with_users (put u false d.user) (with_assigned (put u none d.assigned) d)

abbrev pub delete_user_ends : DirectoryState → ℕ → ℕ → Bool
delete_user_ends d u = if_accepted (delete_user_answer d u) (sessions_that d (OfUser u)) none

abbrev pub after_delete_user : DirectoryState → ℕ → DirectoryState
after_delete_user d u = if_accepted (delete_user_answer d u) (without_user u (ended (sessions_that d (OfUser u)) d)) d

abbrev pub after_add_role : DirectoryState → ℕ → DirectoryState
after_add_role d r = if_accepted (add_role_answer d r) (with_roles (put r true d.role) d) d

-- the role, its assignments and its inheritances are gone
abbrev pub role_gone : ℕ → DirectoryState → DirectoryState
role_gone r d = with_roles (put r false d.role) (with_assigned (λ u. put r false (d.assigned u)) (with_inherits (without_role r d.inherits) d))

abbrev pub delete_role_ends : DirectoryState → ℕ → ℕ → Bool
delete_role_ends d r = if_accepted (delete_role_answer d r) (sessions_that (role_gone r d) Stale) none

abbrev pub after_delete_role : DirectoryState → ℕ → DirectoryState
after_delete_role d r = if_accepted (delete_role_answer d r) (reviewed (role_gone r d)) d

-- the assignment of u to r is put to yes or no
abbrev pub put_assigned : ℕ → ℕ → Bool → DirectoryState → DirectoryState
put_assigned u r x d = with_assigned (put u (put r x (d.assigned u)) d.assigned) d

abbrev pub after_assign : DirectoryState → ℕ → ℕ → DirectoryState
after_assign d u r = if_accepted (assign_answer d u r) (put_assigned u r true d) d

abbrev pub deassign_ends : DirectoryState → ℕ → ℕ → ℕ → Bool
deassign_ends d u r = if_accepted (deassign_answer d u r) (sessions_that (put_assigned u r false d) Stale) none

abbrev pub after_deassign : DirectoryState → ℕ → ℕ → DirectoryState
after_deassign d u r = if_accepted (deassign_answer d u r) (reviewed (put_assigned u r false d)) d

-- the immediate inheritance of a above b is put to yes or no
abbrev pub put_inherits : ℕ → ℕ → Bool → DirectoryState → DirectoryState
put_inherits a b x d = with_inherits (put_pair a b x d.inherits) d

abbrev pub after_add_inheritance : DirectoryState → ℕ → ℕ → DirectoryState
after_add_inheritance d a b = if_accepted (add_inheritance_answer d a b) (put_inherits a b true d) d

abbrev pub delete_inheritance_ends : DirectoryState → ℕ → ℕ → ℕ → Bool
delete_inheritance_ends d a b = if_accepted (delete_inheritance_answer d a b) (sessions_that (put_inherits a b false d) Stale) none

abbrev pub after_delete_inheritance : DirectoryState → ℕ → ℕ → DirectoryState
after_delete_inheritance d a b = if_accepted (delete_inheritance_answer d a b) (reviewed (put_inherits a b false d)) d

abbrev pub put_session : ℕ → SessionState → DirectoryState → DirectoryState
put_session s x d = with_sessions (put s x d.session) d

abbrev pub after_open : DirectoryState → ℕ → ℕ → DirectoryState
after_open d s u = if_accepted (open_answer d s u) (put_session s (opened u none) d) d

abbrev pub end_ends : DirectoryState → ℕ → ℕ → Bool
end_ends d s = if_accepted (end_answer d s) (only s) none

abbrev pub after_end : DirectoryState → ℕ → DirectoryState
after_end d s = if_accepted (end_answer d s) (put_session s closed d) d

-- the role r of an open session is put on or off
abbrev pub switched : ℕ → Bool → SessionState → SessionState
switched r x closed = closed
switched r x (opened u active) = opened u (put r x active)

abbrev pub after_activate : DirectoryState → ℕ → ℕ → DirectoryState
after_activate d s r = if_accepted (activate_answer d s r) (put_session s (switched r true (d.session s)) d) d

abbrev pub after_drop : DirectoryState → ℕ → ℕ → DirectoryState
after_drop d s r = if_accepted (drop_answer d s r) (put_session s (switched r false (d.session s)) d) d
