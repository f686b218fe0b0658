-- The name by which a command is shown to a person, as bytes.
use Rattle.std.specs.Prelude.{ℕ, List, codes}
use Rattle.calls.specs.declared.command.Command.{Command}
use Rattle.calls.specs.declared.command.Command.TheVariants as command
use Rattle.calls.specs.declared.command.Directory.{Directory}
use Rattle.calls.specs.declared.command.Directory.TheVariants.{AddUser, DeleteUser, AddRole, DeleteRole, Assign, Deassign, AddInheritance, DeleteInheritance, AddPlainObject, AddPersonalObject, DeleteObject, GrantPlain, RevokePlain, GrantPrivate, RevokePrivate, AddOwner, DeleteOwner}
use Rattle.calls.specs.declared.command.Consent.{Consent}
use Rattle.calls.specs.declared.command.Consent.TheVariants.{Offer, Retract, Give, Withdraw}
use Rattle.calls.specs.declared.command.Session.{Session}
use Rattle.calls.specs.declared.command.Session.TheVariants.{Open, End, ActivateRole, DropRole, AccessPlain, Use, Look}
use Rattle.calls.specs.declared.command.Question.{Question}
use Rattle.calls.specs.declared.command.Question.TheVariants.{Authorised, Consented}

abbrev pub directory_name : Directory → List ℕ
directory_name (AddUser u) = codes "add user"
directory_name (DeleteUser u) = codes "delete user"
directory_name (AddRole r) = codes "add role"
directory_name (DeleteRole r) = codes "delete role"
directory_name (Assign u r) = codes "assign"
directory_name (Deassign u r) = codes "deassign"
directory_name (AddInheritance a d) = codes "add inheritance"
directory_name (DeleteInheritance a d) = codes "delete inheritance"
directory_name (AddPlainObject b) = codes "add plain object"
directory_name (AddPersonalObject b o m) = codes "add personal object"
directory_name (DeleteObject b) = codes "delete object"
directory_name (GrantPlain p b r) = codes "grant"
directory_name (RevokePlain p b r) = codes "revoke"
directory_name (GrantPrivate p b q r) = codes "grant private"
directory_name (RevokePrivate p b q r) = codes "revoke private"
directory_name (AddOwner o) = codes "add owner"
directory_name (DeleteOwner o) = codes "delete owner"

abbrev pub consent_name : Consent → List ℕ
consent_name (Offer q t) = codes "offer"
consent_name (Retract q t) = codes "retract"
consent_name (Give o q t) = codes "give"
consent_name (Withdraw o q t) = codes "withdraw"

abbrev pub session_name : Session → List ℕ
session_name (Open s u) = codes "open session"
session_name (End s) = codes "end session"
session_name (ActivateRole s r) = codes "activate role"
session_name (DropRole s r) = codes "drop role"
session_name (AccessPlain s p b) = codes "plain access"
session_name (Use s p b q) = codes "use"
session_name (Look s p b q) = codes "look"

abbrev pub question_name : Question → List ℕ
question_name (Authorised u r) = codes "authorised"
question_name (Consented o q t) = codes "consent"

abbrev pub command_name : Command → List ℕ
command_name (command.Directory c) = directory_name c
command_name (command.Consent c) = consent_name c
command_name (command.Session c) = session_name c
command_name (command.Question c) = question_name c
