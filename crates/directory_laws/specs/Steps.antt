-- One call after another on a directory.
use Rattle.std.specs.Prelude.{ℕ, Bool}
use Rattle.bits.specs.Sets.{none}
use Rattle.directory.specs.State.{DirectoryState}
use Rattle.directory.specs.Answers.{add_user_answer, delete_user_answer, add_role_answer, delete_role_answer, assign_answer, deassign_answer, add_inheritance_answer, delete_inheritance_answer, open_answer, end_answer, activate_answer, drop_answer, authorised_answer}
use Rattle.directory.specs.Effects.{after_add_user, delete_user_ends, after_delete_user, after_add_role, delete_role_ends, after_delete_role, after_assign, deassign_ends, after_deassign, after_add_inheritance, delete_inheritance_ends, after_delete_inheritance, after_open, end_ends, after_end, after_activate, after_drop}
use Rattle.directory_laws.specs.declared.call.DirectoryCall.{DirectoryCall}
use Rattle.directory_laws.specs.declared.call.DirectoryCall.TheVariants.{AddUser, DeleteUser, AddRole, DeleteRole, Assign, Deassign, AddInheritance, DeleteInheritance, OpenSession, EndSession, ActivateRole, DropRole, Authorised}

-- the number that the call is answered
abbrev pub step_answer : DirectoryState → DirectoryCall → ℕ
step_answer d (AddUser u) = add_user_answer d u
step_answer d (DeleteUser u) = delete_user_answer d u
step_answer d (AddRole r) = add_role_answer d r
step_answer d (DeleteRole r) = delete_role_answer d r
step_answer d (Assign u r) = assign_answer d u r
step_answer d (Deassign u r) = deassign_answer d u r
step_answer d (AddInheritance a b) = add_inheritance_answer d a b
step_answer d (DeleteInheritance a b) = delete_inheritance_answer d a b
step_answer d (OpenSession s u) = open_answer d s u
step_answer d (EndSession s) = end_answer d s
step_answer d (ActivateRole s r) = activate_answer d s r
step_answer d (DropRole s r) = drop_answer d s r
step_answer d (Authorised u r) = authorised_answer d u r

-- the sessions that end by the call
abbrev pub step_ends : DirectoryState → DirectoryCall → ℕ → Bool
step_ends d (AddUser u) = none
step_ends d (DeleteUser u) = delete_user_ends d u
step_ends d (AddRole r) = none
step_ends d (DeleteRole r) = delete_role_ends d r
step_ends d (Assign u r) = none
step_ends d (Deassign u r) = deassign_ends d u r
step_ends d (AddInheritance a b) = none
step_ends d (DeleteInheritance a b) = delete_inheritance_ends d a b
step_ends d (OpenSession s u) = none
step_ends d (EndSession s) = end_ends d s
step_ends d (ActivateRole s r) = none
step_ends d (DropRole s r) = none
step_ends d (Authorised u r) = none

-- what the call leaves
abbrev pub after_step : DirectoryState → DirectoryCall → DirectoryState
after_step d (AddUser u) = after_add_user d u
after_step d (DeleteUser u) = after_delete_user d u
after_step d (AddRole r) = after_add_role d r
after_step d (DeleteRole r) = after_delete_role d r
after_step d (Assign u r) = after_assign d u r
after_step d (Deassign u r) = after_deassign d u r
after_step d (AddInheritance a b) = after_add_inheritance d a b
after_step d (DeleteInheritance a b) = after_delete_inheritance d a b
after_step d (OpenSession s u) = after_open d s u
after_step d (EndSession s) = after_end d s
after_step d (ActivateRole s r) = after_activate d s r
after_step d (DropRole s r) = after_drop d s r
after_step d (Authorised u r) = d
