-- The account: what an outsider knows who is told each call and whether it was accepted, and nothing else.
use Rattle.std.specs.Prelude.{ℕ, ◌+◌, Bool, true, false, cond, ◌&&◌, List, [], ◌∷◌, ◌==◌}
use Rattle.register.specs.Meaning.{Consents, same}
use Rattle.directory.specs.Effects.{delete_user_ends, delete_role_ends, deassign_ends, delete_inheritance_ends, end_ends}
use Rattle.ledger.specs.Places.{permits_of}
use Rattle.ledger.specs.declared.place.Closing.{Closing}
use Rattle.ledger.specs.declared.place.Closing.TheVariants.{Entry, HandingBack, Lapse}
use Rattle.ledger.specs.declared.place.Use.{Use}
use Rattle.ledger.specs.declared.place.Which.TheVariants.{Serial, All}
use Rattle.ledger_laws.specs.Fates.{Account, nothing, is_still_open, is_entered, is_handed_back, is_lapsed, open_use, how_many, issue_step, close_step}
use Rattle.calls.specs.declared.command.Command.TheVariants.{Directory as DirectoryFamily, Consent as ConsentFamily, Session as SessionFamily, Question as QuestionFamily}
use Rattle.calls.specs.declared.command.Directory.{Directory}
use Rattle.calls.specs.declared.command.Directory.TheVariants.{AddUser, DeleteUser, AddRole, DeleteRole, Assign, Deassign, AddInheritance, DeleteInheritance, AddPlainObject, AddPersonalObject, DeleteObject, GrantPlain, RevokePlain, GrantPrivate, RevokePrivate, AddOwner, DeleteOwner}
use Rattle.calls.specs.declared.command.Consent.{Consent}
use Rattle.calls.specs.declared.command.Consent.TheVariants.{Offer, Retract, Give, Withdraw}
use Rattle.calls.specs.declared.command.Session.{Session}
use Rattle.calls.specs.declared.command.Session.TheVariants.{Open, End, ActivateRole, DropRole, AccessPlain, Use as UseCommand, Look}
use Rattle.rules.specs.State.{owner_of, Tables, bare_tables}
use Rattle.rules.specs.Views.{LedgerView, View}
use Rattle.rules.specs.Numbers.{is_owner, use_of}
use Rattle.rules.specs.Effects.{tables_after, of_sessions}
use Rattle.rules.specs.declared.call.Call.{Call}
use Rattle.rules.specs.declared.call.Call.TheVariants.{Command as CommandCall, Draw, Enter, HandBack, Ledger}

pub record Event : Type 0 where
  pub call : Call
  pub accepted : Bool

-- the latest event first
abbrev pub Past : Type 0
Past = List Event

-- what the accepted calls made of the tables
unfoldable pub tables_of : Past → Tables
tables_of [] = bare_tables
tables_of (e ∷ past) = cond e.accepted (tables_after (tables_of past) e.call) (tables_of past)

-- how an accepted call bears on a word: it gives it, ends it, or leaves it
pub data Bearing : Type 0 where
  gives : Bearing
  ends : Bearing
  leaves : Bearing

abbrev pub where_it_is : Bool → Bearing → Bearing
where_it_is b x = cond b x leaves

abbrev pub directory_bears : Directory → ℕ → ℕ → ℕ → Bearing
directory_bears (AddUser u) o q t = leaves
directory_bears (DeleteUser u) o q t = leaves
directory_bears (AddRole r) o q t = leaves
directory_bears (DeleteRole r) o q t = leaves
directory_bears (Assign u r) o q t = leaves
directory_bears (Deassign u r) o q t = leaves
directory_bears (AddInheritance a d) o q t = leaves
directory_bears (DeleteInheritance a d) o q t = leaves
directory_bears (AddPlainObject b) o q t = leaves
directory_bears (AddPersonalObject b k m) o q t = leaves
directory_bears (DeleteObject b) o q t = leaves
directory_bears (GrantPlain p b r) o q t = leaves
directory_bears (RevokePlain p b r) o q t = leaves
directory_bears (GrantPrivate p b x r) o q t = leaves
directory_bears (RevokePrivate p b x r) o q t = leaves
directory_bears (AddOwner k) o q t = leaves
directory_bears (DeleteOwner k) o q t = where_it_is (o == k) ends

abbrev pub consent_bears : Consent → ℕ → ℕ → ℕ → Bearing
consent_bears (Offer x y) o q t = leaves
consent_bears (Retract x y) o q t = where_it_is (q == x && t == y) ends
consent_bears (Give k x y) o q t = where_it_is (same k x y o q t) gives
consent_bears (Withdraw k x y) o q t = where_it_is (same k x y o q t) ends

abbrev pub bears : Call → ℕ → ℕ → ℕ → Bearing
bears (CommandCall (DirectoryFamily c)) = directory_bears c
bears (CommandCall (ConsentFamily c)) = consent_bears c
bears (CommandCall (SessionFamily c)) = λ o q t. leaves
bears (CommandCall (QuestionFamily c)) = λ o q t. leaves
bears (Draw u) = λ o q t. leaves
bears (Enter k n) = λ o q t. leaves
bears (HandBack k n) = λ o q t. leaves
bears (Ledger k) = λ o q t. leaves

abbrev pub latest : Bearing → Bool → Bool
latest gives before = true
latest ends before = false
latest leaves before = before

-- the word of o on (q, t) stands: of all accepted calls that bear on it the latest is a give
unfoldable pub stands : Past → Consents
stands [] o q t = false
stands (e ∷ past) o q t = latest (cond e.accepted (bears e.call o q t) leaves) (stands past o q t)

-- what an accepted call, made on these tables, does to the account of the owner o
abbrev pub where_owner : ℕ → ℕ → (Account → Account) → Account → Account
where_owner k o step a = cond (o == k) (step a) a

abbrev pub ended : (ℕ → Bool) → Account → Account
ended which a = close_step Lapse (of_sessions which) a

abbrev pub drawn_and_closed : Closing → Use → Account → Account
drawn_and_closed c u a = close_step c (permits_of (Serial (a.issued + 1))) (issue_step u a)

abbrev pub directory_fates : Tables → Directory → ℕ → Account → Account
directory_fates t (AddUser u) o a = a
directory_fates t (DeleteUser u) o a = ended (delete_user_ends t.directory u) a
directory_fates t (AddRole r) o a = a
directory_fates t (DeleteRole r) o a = ended (delete_role_ends t.directory r) a
directory_fates t (Assign u r) o a = a
directory_fates t (Deassign u r) o a = ended (deassign_ends t.directory u r) a
directory_fates t (AddInheritance x y) o a = a
directory_fates t (DeleteInheritance x y) o a = ended (delete_inheritance_ends t.directory x y) a
directory_fates t (AddPlainObject b) o a = a
directory_fates t (AddPersonalObject b k m) o a = a
directory_fates t (DeleteObject b) o a = a
directory_fates t (GrantPlain p b r) o a = a
directory_fates t (RevokePlain p b r) o a = a
directory_fates t (GrantPrivate p b q r) o a = a
directory_fates t (RevokePrivate p b q r) o a = a
directory_fates t (AddOwner k) o a = a
directory_fates t (DeleteOwner k) o a = where_owner k o (close_step Lapse (permits_of All)) a

abbrev pub session_fates : Tables → Session → ℕ → Account → Account
session_fates t (Open s u) o a = a
session_fates t (End s) o a = ended (end_ends t.directory s) a
session_fates t (ActivateRole s r) o a = a
session_fates t (DropRole s r) o a = a
session_fates t (AccessPlain s p b) o a = a
session_fates t (UseCommand s p b q) o a = where_owner (owner_of (t.object b)) o (drawn_and_closed Entry (use_of s p b q)) a
session_fates t (Look s p b q) o a = where_owner (owner_of (t.object b)) o (drawn_and_closed HandingBack (use_of s p b q)) a

abbrev pub fates_accepted : Tables → Call → ℕ → Account → Account
fates_accepted t (CommandCall (DirectoryFamily c)) o a = directory_fates t c o a
fates_accepted t (CommandCall (ConsentFamily c)) o a = a
fates_accepted t (CommandCall (SessionFamily c)) o a = session_fates t c o a
fates_accepted t (CommandCall (QuestionFamily c)) o a = a
fates_accepted t (Draw u) o a = where_owner (owner_of (t.object u.object)) o (issue_step u) a
fates_accepted t (Enter k n) o a = where_owner k o (close_step Entry (permits_of (Serial n))) a
fates_accepted t (HandBack k n) o a = where_owner k o (close_step HandingBack (permits_of (Serial n))) a
fates_accepted t (Ledger k) o a = a

-- a refused entry of an open permit makes it lapsed; a number out of range names no permit, and any other refused call
-- changes nothing
abbrev pub fates_refused : Call → ℕ → Account → Account
fates_refused (CommandCall c) o a = a
fates_refused (Draw u) o a = a
fates_refused (Enter k n) o a = cond (is_owner k) (where_owner k o (close_step Lapse (permits_of (Serial n))) a) a
fates_refused (HandBack k n) o a = a
fates_refused (Ledger k) o a = a

-- the permits of the owner o, each with its one fate
unfoldable pub permits : Past → ℕ → Account
permits [] o = nothing
permits (e ∷ past) o = cond e.accepted (fates_accepted (tables_of past) e.call o (permits past o)) (fates_refused e.call o (permits past o))

-- an owner's counts besides issued are how many of the owner's permits are so marked
abbrev pub ledger_of : Account → LedgerView
ledger_of a = record {
  issued = a.issued;
  entered = how_many is_entered a;
  handed_back = how_many is_handed_back a;
  lapsed = how_many is_lapsed a;
  still_open = how_many is_still_open a;
  uses = λ n. open_use (a.fate n);
}

-- what the account says where the questions look
abbrev pub account_view : Past → View
account_view past = record { tables = tables_of past; word = stands past; ledger = λ o. ledger_of (permits past o) }
