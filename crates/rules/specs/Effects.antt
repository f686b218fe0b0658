-- What an accepted call changes: the tables, one word, the ledgers.
use Rattle.std.specs.Prelude.{ℕ, ◌+◌, Bool, true, false, cond, not, List, [], ◌∷◌, ◌++◌, filter}
use Rattle.bits.specs.Tables.{put}
use Rattle.bits.specs.Sets.{has}
use Rattle.records.specs.Kinds.{same_plain, same_private, names_plain, names_private}
use Rattle.records.specs.Lists.{without}
use Rattle.records.specs.declared.kinds.PlainGrant.{PlainGrant}
use Rattle.records.specs.declared.kinds.PrivateGrant.{PrivateGrant}
use Rattle.records.specs.declared.record.Thing.{Thing}
use Rattle.records.specs.declared.record.Thing.TheVariants.{Role, Object}
use Rattle.register.specs.Meaning.{Register}
use Rattle.register.specs.Answers.{after_give, after_withdraw, after_erase, after_strike}
use Rattle.directory.specs.State.{DirectoryState}
use Rattle.directory.specs.Effects.{after_add_user, delete_user_ends, after_delete_user, after_add_role, delete_role_ends, after_delete_role, after_assign, deassign_ends, after_deassign, after_add_inheritance, delete_inheritance_ends, after_delete_inheritance, after_open, end_ends, after_end, after_activate, after_drop}
use Rattle.ledger.specs.Places.{Permits, permits_of}
use Rattle.ledger.specs.States.{drawn, closed}
use Rattle.ledger.specs.Table.{Table}
use Rattle.ledger.specs.declared.place.Closing.{Closing}
use Rattle.ledger.specs.declared.place.Closing.TheVariants.{Entry, HandingBack, Lapse}
use Rattle.ledger.specs.declared.place.Use.{Use}
use Rattle.ledger.specs.declared.place.Which.TheVariants.{Serial, All}
use Rattle.calls.specs.declared.command.Command.TheVariants.{Directory as DirectoryFamily, Consent as ConsentFamily, Session as SessionFamily, Question as QuestionFamily}
use Rattle.calls.specs.declared.command.Directory.{Directory}
use Rattle.calls.specs.declared.command.Directory.TheVariants.{AddUser, DeleteUser, AddRole, DeleteRole, Assign, Deassign, AddInheritance, DeleteInheritance, AddPlainObject, AddPersonalObject, DeleteObject, GrantPlain, RevokePlain, GrantPrivate, RevokePrivate, AddOwner, DeleteOwner}
use Rattle.calls.specs.declared.command.Consent.{Consent}
use Rattle.calls.specs.declared.command.Consent.TheVariants.{Offer, Retract, Give, Withdraw}
use Rattle.calls.specs.declared.command.Session.{Session}
use Rattle.calls.specs.declared.command.Session.TheVariants.{Open, End, ActivateRole, DropRole, AccessPlain, Use as UseCommand, Look}
use Rattle.rules.specs.State.{ObjectState, absent, plain, personal, belongs_to, owner_of, Tables}
use Rattle.rules.specs.Numbers.{plain_grant, private_grant, use_of}
use Rattle.rules.specs.declared.call.Call.{Call}
use Rattle.rules.specs.declared.call.Call.TheVariants.{Command as CommandCall, Draw, Enter, HandBack, Ledger}

-- the tables with one of them put in the place of the old one
abbrev pub with_directory : DirectoryState → Tables → Tables
with_directory d t = record { directory = d; owner = t.owner; offered = t.offered; object = t.object; plain_grants = t.plain_grants; private_grants = t.private_grants }

abbrev pub with_owners : (ℕ → Bool) → Tables → Tables
with_owners f t = record { directory = t.directory; owner = f; offered = t.offered; object = t.object; plain_grants = t.plain_grants; private_grants = t.private_grants }

abbrev pub with_offered : (ℕ → ℕ → Bool) → Tables → Tables
with_offered f t = record { directory = t.directory; owner = t.owner; offered = f; object = t.object; plain_grants = t.plain_grants; private_grants = t.private_grants }

abbrev pub with_objects : (ℕ → ObjectState) → Tables → Tables
with_objects f t = record { directory = t.directory; owner = t.owner; offered = t.offered; object = f; plain_grants = t.plain_grants; private_grants = t.private_grants }

abbrev pub with_grants : List PlainGrant → List PrivateGrant → Tables → Tables
with_grants f g t = record { directory = t.directory; owner = t.owner; offered = t.offered; object = t.object; plain_grants = f; private_grants = g }

-- every grant that names the thing is struck
abbrev pub struck : Thing → Tables → Tables
struck x t = with_grants (filter (λ g. not (names_plain g x)) t.plain_grants) (filter (λ g. not (names_private g x)) t.private_grants) t

-- the objects of the owner o are gone, and their grants with them
abbrev pub without_objects_of : ℕ → Tables → Tables
without_objects_of o t =
    with_objects (λ b. cond (belongs_to o (t.object b)) absent (t.object b))
    (with_grants (filter (λ g. not (belongs_to o (t.object g.object))) t.plain_grants) (filter (λ g. not (belongs_to o (t.object g.object))) t.private_grants) t)

abbrev pub directory_tables : Tables → Directory → Tables
directory_tables t (AddUser u) = with_directory (after_add_user t.directory u) t
directory_tables t (DeleteUser u) = with_directory (after_delete_user t.directory u) t
directory_tables t (AddRole r) = with_directory (after_add_role t.directory r) t
directory_tables t (DeleteRole r) = struck (Role r) (with_directory (after_delete_role t.directory r) t)
directory_tables t (Assign u r) = with_directory (after_assign t.directory u r) t
directory_tables t (Deassign u r) = with_directory (after_deassign t.directory u r) t
directory_tables t (AddInheritance a d) = with_directory (after_add_inheritance t.directory a d) t
directory_tables t (DeleteInheritance a d) = with_directory (after_delete_inheritance t.directory a d) t
directory_tables t (AddPlainObject b) = with_objects (put b plain t.object) t
directory_tables t (AddPersonalObject b o m) = with_objects (put b (personal o (has m)) t.object) t
directory_tables t (DeleteObject b) = struck (Object b) (with_objects (put b absent t.object) t)
directory_tables t (GrantPlain p b r) = with_grants (t.plain_grants ++ plain_grant p b r ∷ []) t.private_grants t
directory_tables t (RevokePlain p b r) = with_grants (without same_plain t.plain_grants (plain_grant p b r)) t.private_grants t
directory_tables t (GrantPrivate p b q r) = with_grants t.plain_grants (t.private_grants ++ private_grant p b q r ∷ []) t
directory_tables t (RevokePrivate p b q r) = with_grants t.plain_grants (without same_private t.private_grants (private_grant p b q r)) t
directory_tables t (AddOwner o) = with_owners (put o true t.owner) t
directory_tables t (DeleteOwner o) = with_owners (put o false t.owner) (without_objects_of o t)

abbrev pub consent_tables : Tables → Consent → Tables
consent_tables t (Offer q d) = with_offered (put q (put d true (t.offered q)) t.offered) t
consent_tables t (Retract q d) = with_offered (put q (put d false (t.offered q)) t.offered) t
consent_tables t (Give o q d) = t
consent_tables t (Withdraw o q d) = t

abbrev pub session_tables : Tables → Session → Tables
session_tables t (Open s u) = with_directory (after_open t.directory s u) t
session_tables t (End s) = with_directory (after_end t.directory s) t
session_tables t (ActivateRole s r) = with_directory (after_activate t.directory s r) t
session_tables t (DropRole s r) = with_directory (after_drop t.directory s r) t
session_tables t (AccessPlain s p b) = t
session_tables t (UseCommand s p b q) = t
session_tables t (Look s p b q) = t

abbrev pub tables_after : Tables → Call → Tables
tables_after t (CommandCall (DirectoryFamily c)) = directory_tables t c
tables_after t (CommandCall (ConsentFamily c)) = consent_tables t c
tables_after t (CommandCall (SessionFamily c)) = session_tables t c
tables_after t (CommandCall (QuestionFamily c)) = t
tables_after t (Draw u) = t
tables_after t (Enter o n) = t
tables_after t (HandBack o n) = t
tables_after t (Ledger o) = t

abbrev pub register_after_consent : Register → Consent → Register
register_after_consent m (Offer q d) = m
register_after_consent m (Retract q d) = after_strike m q d
register_after_consent m (Give o q d) = after_give m o q d
register_after_consent m (Withdraw o q d) = after_withdraw m o q d

abbrev pub register_after_directory : Register → Directory → Register
register_after_directory m (AddUser u) = m
register_after_directory m (DeleteUser u) = m
register_after_directory m (AddRole r) = m
register_after_directory m (DeleteRole r) = m
register_after_directory m (Assign u r) = m
register_after_directory m (Deassign u r) = m
register_after_directory m (AddInheritance a d) = m
register_after_directory m (DeleteInheritance a d) = m
register_after_directory m (AddPlainObject b) = m
register_after_directory m (AddPersonalObject b o x) = m
register_after_directory m (DeleteObject b) = m
register_after_directory m (GrantPlain p b r) = m
register_after_directory m (RevokePlain p b r) = m
register_after_directory m (GrantPrivate p b q r) = m
register_after_directory m (RevokePrivate p b q r) = m
register_after_directory m (AddOwner o) = m
register_after_directory m (DeleteOwner o) = after_erase m o

abbrev pub register_after : Register → Call → Register
register_after m (CommandCall (DirectoryFamily c)) = register_after_directory m c
register_after m (CommandCall (ConsentFamily c)) = register_after_consent m c
register_after m (CommandCall (SessionFamily c)) = m
register_after m (CommandCall (QuestionFamily c)) = m
register_after m (Draw u) = m
register_after m (Enter o n) = m
register_after m (HandBack o n) = m
register_after m (Ledger o) = m

-- the open permits of these sessions
abbrev pub of_sessions : (ℕ → Bool) → Permits
of_sessions which n u = which u.session

-- the open permits of these sessions lapse, in every ledger
abbrev pub lapsed_by : (ℕ → Bool) → Table → Table
lapsed_by which f o = closed Lapse (of_sessions which) (f o)

-- one ledger with what a permit's end leaves of it
abbrev pub closed_in : Closing → ℕ → Permits → Table → Table
closed_in c o these f = put o (closed c these (f o)) f

-- a permit more in the ledger of the object's owner
abbrev pub drawn_in : Tables → Use → Table → Table
drawn_in t u f = put (owner_of (t.object u.object)) (drawn u (f (owner_of (t.object u.object)))) f

-- a permit drawn, and closed at once
abbrev pub drawn_and_closed : Closing → Tables → Use → Table → Table
drawn_and_closed c t u f = closed_in c (owner_of (t.object u.object)) (permits_of (Serial ((f (owner_of (t.object u.object))).issued + 1))) (drawn_in t u f)

abbrev pub ledgers_after_directory : Tables → Directory → Table → Table
ledgers_after_directory t (AddUser u) f = f
ledgers_after_directory t (DeleteUser u) f = lapsed_by (delete_user_ends t.directory u) f
ledgers_after_directory t (AddRole r) f = f
ledgers_after_directory t (DeleteRole r) f = lapsed_by (delete_role_ends t.directory r) f
ledgers_after_directory t (Assign u r) f = f
ledgers_after_directory t (Deassign u r) f = lapsed_by (deassign_ends t.directory u r) f
ledgers_after_directory t (AddInheritance a d) f = f
ledgers_after_directory t (DeleteInheritance a d) f = lapsed_by (delete_inheritance_ends t.directory a d) f
ledgers_after_directory t (AddPlainObject b) f = f
ledgers_after_directory t (AddPersonalObject b o m) f = f
ledgers_after_directory t (DeleteObject b) f = f
ledgers_after_directory t (GrantPlain p b r) f = f
ledgers_after_directory t (RevokePlain p b r) f = f
ledgers_after_directory t (GrantPrivate p b q r) f = f
ledgers_after_directory t (RevokePrivate p b q r) f = f
ledgers_after_directory t (AddOwner o) f = f
ledgers_after_directory t (DeleteOwner o) f = closed_in Lapse o (permits_of All) f

abbrev pub ledgers_after_session : Tables → Session → Table → Table
ledgers_after_session t (Open s u) f = f
ledgers_after_session t (End s) f = lapsed_by (end_ends t.directory s) f
ledgers_after_session t (ActivateRole s r) f = f
ledgers_after_session t (DropRole s r) f = f
ledgers_after_session t (AccessPlain s p b) f = f
ledgers_after_session t (UseCommand s p b q) f = drawn_and_closed Entry t (use_of s p b q) f
ledgers_after_session t (Look s p b q) f = drawn_and_closed HandingBack t (use_of s p b q) f

abbrev pub ledgers_after : Tables → Call → Table → Table
ledgers_after t (CommandCall (DirectoryFamily c)) f = ledgers_after_directory t c f
ledgers_after t (CommandCall (ConsentFamily c)) f = f
ledgers_after t (CommandCall (SessionFamily c)) f = ledgers_after_session t c f
ledgers_after t (CommandCall (QuestionFamily c)) f = f
ledgers_after t (Draw u) f = drawn_in t u f
ledgers_after t (Enter o n) f = closed_in Entry o (permits_of (Serial n)) f
ledgers_after t (HandBack o n) f = closed_in HandingBack o (permits_of (Serial n)) f
ledgers_after t (Ledger o) f = f
