-- The number that each call is answered: its questions in their order, and the first no decides.
use Rattle.std.specs.Prelude.{ℕ, min, Bool, false, not, ◌&&◌, List, [], ◌∷◌, length, is_some, Some, None, Option, ◌==◌, nat_lt}
use Rattle.vocabulary.specs.Questions.{Question, asks, first_no, if_accepted}
use Rattle.records.specs.Kinds.{same_plain, same_private}
use Rattle.records.specs.Lists.{holds}
use Rattle.records.specs.declared.kinds.PlainGrant.{PlainGrant}
use Rattle.records.specs.declared.kinds.PrivateGrant.{PrivateGrant}
use Rattle.register.specs.Meaning.{in_range}
use Rattle.register.specs.Answers.{give_answer, withdraw_answer}
use Rattle.directory.specs.State.{is_open}
use Rattle.directory.specs.Answers.{is_role, is_session, add_user_answer, delete_user_answer, add_role_answer, delete_role_answer, assign_answer, deassign_answer, add_inheritance_answer, delete_inheritance_answer, open_answer, end_answer, activate_answer, drop_answer, authorised_answer}
use Rattle.ledger.specs.declared.place.Use.{Use}
use Rattle.calls.specs.declared.command.Command.{Command}
use Rattle.calls.specs.declared.command.Command.TheVariants.{Directory as DirectoryFamily, Consent as ConsentFamily, Session as SessionFamily, Question as QuestionFamily}
use Rattle.calls.specs.declared.command.Directory.{Directory}
use Rattle.calls.specs.declared.command.Directory.TheVariants.{AddUser, DeleteUser, AddRole, DeleteRole, Assign, Deassign, AddInheritance, DeleteInheritance, AddPlainObject, AddPersonalObject, DeleteObject, GrantPlain, RevokePlain, GrantPrivate, RevokePrivate, AddOwner, DeleteOwner}
use Rattle.calls.specs.declared.command.Consent.{Consent}
use Rattle.calls.specs.declared.command.Consent.TheVariants.{Offer, Retract, Give, Withdraw}
use Rattle.calls.specs.declared.command.Session.{Session}
use Rattle.calls.specs.declared.command.Session.TheVariants.{Open, End, ActivateRole, DropRole, AccessPlain, Use as UseCommand, Look}
use Rattle.calls.specs.declared.command.Question.TheVariants.{Authorised, Consented}
use Rattle.rules.specs.State.{ObjectState, exists, is_plain, is_personal, owner_of, Tables, Bounds}
use Rattle.rules.specs.Views.{View, register_in}
use Rattle.rules.specs.Coverage.{holds_plain, holds_private, agrees, covers}
use Rattle.rules.specs.declared.call.Call.{Call}
use Rattle.rules.specs.declared.call.Call.TheVariants.{Command as CommandCall, Draw, Enter, HandBack, Ledger}

abbrev pub is_operation : ℕ → Bool
is_operation p = nat_lt p 16

abbrev pub is_object : ℕ → Bool
is_object b = nat_lt b 512

abbrev pub is_purpose : ℕ → Bool
is_purpose q = nat_lt q 16

abbrev pub is_type : ℕ → Bool
is_type t = nat_lt t 16

abbrev pub is_owner : ℕ → Bool
is_owner o = nat_lt o 128

abbrev pub plain_grant : ℕ → ℕ → ℕ → PlainGrant
plain_grant p b r = record { operation = p; object = b; role = r }

abbrev pub private_grant : ℕ → ℕ → ℕ → ℕ → PrivateGrant
private_grant p b q r = record { operation = p; object = b; purpose = q; role = r }

-- a grant set uses at most 1,024 of its places
abbrev pub room_for : ℕ → ℕ
room_for places = min places 1024

abbrev pub use_of : ℕ → ℕ → ℕ → ℕ → Use
use_of s p b q = record { session = s; operation = p; object = b; purpose = q }

abbrev pub use_in_range : Use → Bool
use_in_range u = is_session u.session && (is_operation u.operation && (is_object u.object && is_purpose u.purpose))

-- the questions of the kernel and then those of its register
abbrev pub and_then : List Question → ℕ → ℕ
and_then asked next = if_accepted (first_no asked) next (first_no asked)

-- what is asked of a grant before its set is
abbrev pub grant_asked : Tables → ℕ → ℕ → Bool → (ObjectState → Bool) → List Question → List Question
grant_asked t b r range sort more =
    asks 1 range
    ∷ asks 3 (t.directory.role r)
    ∷ asks 4 (exists (t.object b))
    ∷ asks 8 (sort (t.object b))
    ∷ more

abbrev pub directory_number : Bounds → Tables → Directory → ℕ
directory_number k t (AddUser u) = add_user_answer t.directory u
directory_number k t (DeleteUser u) = delete_user_answer t.directory u
directory_number k t (AddRole r) = add_role_answer t.directory r
directory_number k t (DeleteRole r) = delete_role_answer t.directory r
directory_number k t (Assign u r) = assign_answer t.directory u r
directory_number k t (Deassign u r) = deassign_answer t.directory u r
directory_number k t (AddInheritance a d) = add_inheritance_answer t.directory a d
directory_number k t (DeleteInheritance a d) = delete_inheritance_answer t.directory a d
directory_number k t (AddPlainObject b) = first_no (asks 1 (is_object b) ∷ asks 9 (not (exists (t.object b))) ∷ [])
directory_number k t (AddPersonalObject b o m) =
    first_no
    (asks 1 (is_object b && (is_owner o && not (m == 0)))
    ∷ asks 5 (t.owner o)
    ∷ asks 9 (not (exists (t.object b)))
    ∷ [])
directory_number k t (DeleteObject b) = first_no (asks 1 (is_object b) ∷ asks 4 (exists (t.object b)) ∷ [])
directory_number k t (GrantPlain p b r) =
    first_no
    (grant_asked t b r (is_operation p && (is_object b && is_role r)) is_plain
    (asks 9 (not (holds same_plain t.plain_grants (plain_grant p b r)))
    ∷ asks 13 (nat_lt (length t.plain_grants) (room_for k.plain_places))
    ∷ []))
directory_number k t (RevokePlain p b r) =
    first_no
    (grant_asked t b r (is_operation p && (is_object b && is_role r)) is_plain
    (asks 10 (holds same_plain t.plain_grants (plain_grant p b r))
    ∷ []))
directory_number k t (GrantPrivate p b q r) =
    first_no
    (grant_asked t b r (is_operation p && (is_object b && (is_purpose q && is_role r))) is_personal
    (asks 9 (not (holds same_private t.private_grants (private_grant p b q r)))
    ∷ asks 13 (nat_lt (length t.private_grants) (room_for k.private_places))
    ∷ []))
directory_number k t (RevokePrivate p b q r) =
    first_no
    (grant_asked t b r (is_operation p && (is_object b && (is_purpose q && is_role r))) is_personal
    (asks 10 (holds same_private t.private_grants (private_grant p b q r))
    ∷ []))
directory_number k t (AddOwner o) = first_no (asks 1 (is_owner o) ∷ asks 9 (not (t.owner o)) ∷ [])
directory_number k t (DeleteOwner o) = first_no (asks 1 (is_owner o) ∷ asks 5 (t.owner o) ∷ [])

-- what the kernel asks of a give and of a withdrawal before it turns to its register
abbrev pub give_asked : Tables → ℕ → ℕ → ℕ → List Question
give_asked t o q d = asks 1 (in_range o q d) ∷ asks 5 (t.owner o) ∷ asks 7 (t.offered q d) ∷ []

abbrev pub withdraw_asked : Tables → ℕ → ℕ → ℕ → List Question
withdraw_asked t o q d = asks 1 (in_range o q d) ∷ asks 5 (t.owner o) ∷ []

abbrev pub consent_number : Bounds → View → Consent → ℕ
consent_number k v (Offer q d) = first_no (asks 1 (is_purpose q && is_type d) ∷ asks 9 (not (v.tables.offered q d)) ∷ [])
consent_number k v (Retract q d) = first_no (asks 1 (is_purpose q && is_type d) ∷ asks 7 (v.tables.offered q d) ∷ [])
consent_number k v (Give o q d) = and_then (give_asked v.tables o q d) (give_answer (register_in k v) o q d)
consent_number k v (Withdraw o q d) = and_then (withdraw_asked v.tables o q d) (withdraw_answer (register_in k v) o q d)

-- a draw of a permit, be it alone or inside a use or a look
abbrev pub draw_number : View → Use → ℕ
draw_number v u =
    first_no
    (asks 1 (use_in_range u)
    ∷ asks 4 (exists (v.tables.object u.object))
    ∷ asks 6 (is_open (v.tables.directory.session u.session))
    ∷ asks 8 (is_personal (v.tables.object u.object))
    ∷ asks 14 (holds_private v.tables u)
    ∷ asks 15 (agrees v.word (owner_of (v.tables.object u.object)) u.purpose (v.tables.object u.object))
    ∷ asks 16 (nat_lt (v.ledger (owner_of (v.tables.object u.object))).still_open 8)
    ∷ asks 17 (nat_lt (v.ledger (owner_of (v.tables.object u.object))).issued 65535)
    ∷ [])

abbrev pub session_number : View → Session → ℕ
session_number v (Open s u) = open_answer v.tables.directory s u
session_number v (End s) = end_answer v.tables.directory s
session_number v (ActivateRole s r) = activate_answer v.tables.directory s r
session_number v (DropRole s r) = drop_answer v.tables.directory s r
session_number v (AccessPlain s p b) =
    first_no
    (asks 1 (is_session s && (is_operation p && is_object b))
    ∷ asks 4 (exists (v.tables.object b))
    ∷ asks 6 (is_open (v.tables.directory.session s))
    ∷ asks 8 (is_plain (v.tables.object b))
    ∷ asks 14 (holds_plain v.tables s p b)
    ∷ [])
session_number v (UseCommand s p b q) = draw_number v (use_of s p b q)
session_number v (Look s p b q) = draw_number v (use_of s p b q)

-- the use of an open permit is covered; without such a permit there is none
abbrev pub covers_permit : View → ℕ → Option Use → Bool
covers_permit v o None = false
covers_permit v o (Some u) = covers v.tables v.word o u

abbrev pub command_number : Bounds → View → Command → ℕ
command_number k v (DirectoryFamily c) = directory_number k v.tables c
command_number k v (ConsentFamily c) = consent_number k v c
command_number k v (SessionFamily c) = session_number v c
command_number k v (QuestionFamily (Authorised u r)) = authorised_answer v.tables.directory u r
command_number k v (QuestionFamily (Consented o q d)) = first_no (asks 1 (in_range o q d) ∷ asks 5 (v.tables.owner o) ∷ asks 15 (v.word o q d) ∷ [])

abbrev pub number : Bounds → View → Call → ℕ
number k v (CommandCall c) = command_number k v c
number k v (Draw u) = draw_number v u
number k v (Enter o n) = first_no (asks 1 (is_owner o) ∷ asks 18 (is_some ((v.ledger o).uses n)) ∷ asks 19 (covers_permit v o ((v.ledger o).uses n)) ∷ [])
number k v (HandBack o n) = first_no (asks 1 (is_owner o) ∷ asks 18 (is_some ((v.ledger o).uses n)) ∷ [])
number k v (Ledger o) = first_no (asks 1 (is_owner o) ∷ [])
