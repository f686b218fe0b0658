-- What each call on a directory is answered, by number: its questions in their order, and the first no decides.
use Rattle.std.specs.Prelude.{ℕ, Bool, not, ◌&&◌, [], ◌∷◌, Ok, Err, Result, nat_lt}
use Rattle.vocabulary.specs.Questions.{asks, first_no}
use Rattle.vocabulary.specs.Tables.{only}
use Rattle.bits.specs.Sets.{members, none}
use Rattle.bits.specs.declared.set.Session.{Session}
use Rattle.bits.specs.declared.set.BitSet.{BitSet}
use Rattle.hierarchy.specs.Reach.{above_or_equal}
use Rattle.directory.specs.State.{DirectoryState, is_open, user_of, active_in}
use Rattle.directory.specs.Sessions.{authorised}
use Rattle.directory.specs.declared.fault.DirectoryFault.{DirectoryFault}
use Rattle.directory.specs.declared.fault.DirectoryFault.TheVariants.{OutOfRange, NoUser, NoRole, NoSession, AlreadyThere, NotThere, Circle, NotAuthorised}

-- the number of each refusal
abbrev pub fault_number : DirectoryFault → ℕ
fault_number OutOfRange = 1
fault_number NoUser = 2
fault_number NoRole = 3
fault_number NoSession = 6
fault_number AlreadyThere = 9
fault_number NotThere = 10
fault_number Circle = 11
fault_number NotAuthorised = 12

-- the number of an answer: 0 where the call was accepted
abbrev pub answer_number : {X : Type 0} → Result X DirectoryFault → ℕ
answer_number (Ok x) = 0
answer_number (Err f) = fault_number f

-- the sessions that an answer says have ended: none where the call was refused
abbrev pub answer_ends : Result (BitSet ℕ Session) DirectoryFault → ℕ → Bool
answer_ends (Ok sessions) = members sessions
answer_ends (Err f) = none

abbrev pub is_user : ℕ → Bool
is_user u = nat_lt u 256

abbrev pub is_role : ℕ → Bool
is_role r = nat_lt r 64

abbrev pub is_session : ℕ → Bool
is_session s = nat_lt s 64

-- the first questions of a call that names a user and a role, a session and a role, two roles
abbrev pub user_and_role_answer : DirectoryState → ℕ → ℕ → ℕ
user_and_role_answer d u r = first_no (asks 1 (is_user u && is_role r) ∷ asks 2 (d.user u) ∷ asks 3 (d.role r) ∷ [])

abbrev pub session_and_role_answer : DirectoryState → ℕ → ℕ → ℕ
session_and_role_answer d s r = first_no (asks 1 (is_session s && is_role r) ∷ asks 3 (d.role r) ∷ asks 6 (is_open (d.session s)) ∷ [])

abbrev pub two_roles_answer : DirectoryState → ℕ → ℕ → ℕ
two_roles_answer d a b = first_no (asks 1 (is_role a && is_role b) ∷ asks 3 (d.role a && d.role b) ∷ [])

abbrev pub add_user_answer : DirectoryState → ℕ → ℕ
add_user_answer d u = first_no (asks 1 (is_user u) ∷ asks 9 (not (d.user u)) ∷ [])

abbrev pub delete_user_answer : DirectoryState → ℕ → ℕ
delete_user_answer d u = first_no (asks 1 (is_user u) ∷ asks 2 (d.user u) ∷ [])

abbrev pub add_role_answer : DirectoryState → ℕ → ℕ
add_role_answer d r = first_no (asks 1 (is_role r) ∷ asks 9 (not (d.role r)) ∷ [])

abbrev pub delete_role_answer : DirectoryState → ℕ → ℕ
delete_role_answer d r = first_no (asks 1 (is_role r) ∷ asks 3 (d.role r) ∷ [])

abbrev pub assign_answer : DirectoryState → ℕ → ℕ → ℕ
assign_answer d u r = first_no (asks 1 (is_user u && is_role r) ∷ asks 2 (d.user u) ∷ asks 3 (d.role r) ∷ asks 9 (not (d.assigned u r)) ∷ [])

abbrev pub deassign_answer : DirectoryState → ℕ → ℕ → ℕ
deassign_answer d u r = first_no (asks 1 (is_user u && is_role r) ∷ asks 2 (d.user u) ∷ asks 3 (d.role r) ∷ asks 10 (d.assigned u r) ∷ [])

-- a above b
abbrev pub add_inheritance_answer : DirectoryState → ℕ → ℕ → ℕ
add_inheritance_answer d a b =
    first_no
    (asks 1 (is_role a && is_role b)
    ∷ asks 3 (d.role a && d.role b)
    ∷ asks 9 (not (d.inherits a b))
    ∷ asks 11 (not (above_or_equal d.inherits b a))
    ∷ [])

abbrev pub delete_inheritance_answer : DirectoryState → ℕ → ℕ → ℕ
delete_inheritance_answer d a b = first_no (asks 1 (is_role a && is_role b) ∷ asks 3 (d.role a && d.role b) ∷ asks 10 (d.inherits a b) ∷ [])

abbrev pub open_answer : DirectoryState → ℕ → ℕ → ℕ
open_answer d s u = first_no (asks 1 (is_session s && is_user u) ∷ asks 2 (d.user u) ∷ asks 9 (not (is_open (d.session s))) ∷ [])

abbrev pub end_answer : DirectoryState → ℕ → ℕ
end_answer d s = first_no (asks 1 (is_session s) ∷ asks 6 (is_open (d.session s)) ∷ [])

abbrev pub activate_answer : DirectoryState → ℕ → ℕ → ℕ
activate_answer d s r =
    first_no
    (asks 1 (is_session s && is_role r)
    ∷ asks 3 (d.role r)
    ∷ asks 6 (is_open (d.session s))
    ∷ asks 9 (not (active_in (d.session s) r))
    ∷ asks 12 (authorised d (user_of (d.session s)) (only r))
    ∷ [])

abbrev pub drop_answer : DirectoryState → ℕ → ℕ → ℕ
drop_answer d s r =
    first_no
    (asks 1 (is_session s && is_role r)
    ∷ asks 3 (d.role r)
    ∷ asks 6 (is_open (d.session s))
    ∷ asks 10 (active_in (d.session s) r)
    ∷ [])

abbrev pub authorised_answer : DirectoryState → ℕ → ℕ → ℕ
authorised_answer d u r =
    first_no
    (asks 1 (is_user u && is_role r)
    ∷ asks 2 (d.user u)
    ∷ asks 3 (d.role r)
    ∷ asks 12 (authorised d u (only r))
    ∷ [])
