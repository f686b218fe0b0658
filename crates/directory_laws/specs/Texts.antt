-- The text of each call.
use Rattle.std.specs.Prelude.{ℕ, ◌++◌, List, codes, decimal}
use Rattle.directory_laws.specs.declared.call.DirectoryCall.{DirectoryCall}
use Rattle.directory_laws.specs.declared.call.DirectoryCall.TheVariants.{AddUser, DeleteUser, AddRole, DeleteRole, Assign, Deassign, AddInheritance, DeleteInheritance, OpenSession, EndSession, ActivateRole, DropRole, Authorised}

abbrev pub call_text : DirectoryCall → List ℕ
call_text (AddUser u) = codes "add user " ++ decimal u
call_text (DeleteUser u) = codes "delete user " ++ decimal u
call_text (AddRole r) = codes "add role " ++ decimal r
call_text (DeleteRole r) = codes "delete role " ++ decimal r
call_text (Assign u r) = codes "assign user " ++ (decimal u ++ (codes " to role " ++ decimal r))
call_text (Deassign u r) = codes "deassign user " ++ (decimal u ++ (codes " from role " ++ decimal r))
call_text (AddInheritance a b) = codes "put role " ++ (decimal a ++ (codes " above role " ++ decimal b))
call_text (DeleteInheritance a b) = codes "put role " ++ (decimal a ++ (codes " no longer above role " ++ decimal b))
call_text (OpenSession s u) = codes "open session " ++ (decimal s ++ (codes " for user " ++ decimal u))
call_text (EndSession s) = codes "end session " ++ decimal s
call_text (ActivateRole s r) = codes "activate role " ++ (decimal r ++ (codes " in session " ++ decimal s))
call_text (DropRole s r) = codes "drop role " ++ (decimal r ++ (codes " in session " ++ decimal s))
call_text (Authorised u r) = codes "may user " ++ (decimal u ++ (codes " activate role " ++ decimal r))
