-- The layout of a command: the number of its kind, and its fields in the order in which a record has them.
use Rattle.std.specs.Prelude.{ℕ, Bool, cond, ◌&&◌, List, [], ◌∷◌, Some, None, Option, nat_lt, slice_index}
use Rattle.calls.specs.declared.command.Command.{Command}
use Rattle.calls.specs.declared.command.Command.TheVariants as command
use Rattle.calls.specs.declared.command.Directory.{Directory}
use Rattle.calls.specs.declared.command.Directory.TheVariants.{AddUser, DeleteUser, AddRole, DeleteRole, Assign, Deassign, AddInheritance, DeleteInheritance, AddPlainObject, AddPersonalObject, DeleteObject, GrantPlain, RevokePlain, GrantPrivate, RevokePrivate, AddOwner, DeleteOwner}
use Rattle.calls.specs.declared.command.Consent.{Consent}
use Rattle.calls.specs.declared.command.Consent.TheVariants.{Offer, Retract, Give, Withdraw}
use Rattle.calls.specs.declared.command.Session.{Session}
use Rattle.calls.specs.declared.command.Session.TheVariants.{Open, End, ActivateRole, DropRole, AccessPlain, Use, Look}
use Rattle.calls.specs.declared.command.Question.{Question}
use Rattle.calls.specs.declared.command.Question.TheVariants.{Authorised, Consented}
use Rattle.calls.specs.declared.command.Family.{Family}
use Rattle.calls.specs.declared.command.Family.TheVariants as family

pub record Layout : Type 0 where
  pub kind : ℕ
  pub fields : List ℕ

abbrev pub laid : ℕ → List ℕ → Layout
laid k ws = record { kind = k; fields = ws }

abbrev pub directory_layout : Directory → Layout
directory_layout (AddUser u) = laid 1 (u ∷ [])
directory_layout (DeleteUser u) = laid 2 (u ∷ [])
directory_layout (AddRole r) = laid 3 (r ∷ [])
directory_layout (DeleteRole r) = laid 4 (r ∷ [])
directory_layout (Assign u r) = laid 5 (u ∷ r ∷ [])
directory_layout (Deassign u r) = laid 6 (u ∷ r ∷ [])
directory_layout (AddInheritance a d) = laid 7 (a ∷ d ∷ [])
directory_layout (DeleteInheritance a d) = laid 8 (a ∷ d ∷ [])
directory_layout (AddPlainObject b) = laid 9 (b ∷ [])
directory_layout (AddPersonalObject b o m) = laid 10 (b ∷ o ∷ m ∷ [])
directory_layout (DeleteObject b) = laid 11 (b ∷ [])
directory_layout (GrantPlain p b r) = laid 12 (p ∷ b ∷ r ∷ [])
directory_layout (RevokePlain p b r) = laid 13 (p ∷ b ∷ r ∷ [])
directory_layout (GrantPrivate p b q r) = laid 14 (p ∷ b ∷ q ∷ r ∷ [])
directory_layout (RevokePrivate p b q r) = laid 15 (p ∷ b ∷ q ∷ r ∷ [])
directory_layout (AddOwner o) = laid 16 (o ∷ [])
directory_layout (DeleteOwner o) = laid 17 (o ∷ [])

abbrev pub consent_layout : Consent → Layout
consent_layout (Offer q t) = laid 18 (q ∷ t ∷ [])
consent_layout (Retract q t) = laid 19 (q ∷ t ∷ [])
consent_layout (Give o q t) = laid 20 (o ∷ q ∷ t ∷ [])
consent_layout (Withdraw o q t) = laid 21 (o ∷ q ∷ t ∷ [])

abbrev pub session_layout : Session → Layout
session_layout (Open s u) = laid 22 (s ∷ u ∷ [])
session_layout (End s) = laid 23 (s ∷ [])
session_layout (ActivateRole s r) = laid 24 (s ∷ r ∷ [])
session_layout (DropRole s r) = laid 25 (s ∷ r ∷ [])
session_layout (AccessPlain s p b) = laid 26 (s ∷ p ∷ b ∷ [])
session_layout (Use s p b q) = laid 27 (s ∷ p ∷ b ∷ q ∷ [])
session_layout (Look s p b q) = laid 28 (s ∷ p ∷ b ∷ q ∷ [])

abbrev pub question_layout : Question → Layout
question_layout (Authorised u r) = laid 29 (u ∷ r ∷ [])
question_layout (Consented o q t) = laid 30 (o ∷ q ∷ t ∷ [])

abbrev pub layout : Command → Layout
layout (command.Directory c) = directory_layout c
layout (command.Consent c) = consent_layout c
layout (command.Session c) = session_layout c
layout (command.Question c) = question_layout c

-- which family a command belongs to
abbrev pub family_of : Command → Family
family_of (command.Directory c) = family.Directory
family_of (command.Consent c) = family.Consent
family_of (command.Session c) = family.Session
family_of (command.Question c) = family.Question

-- how many fields each kind has, by its number; no kind is 0
abbrev pub field_counts : List ℕ
field_counts =
    0
    ∷ 1 ∷ 1 ∷ 1 ∷ 1 ∷ 2 ∷ 2 ∷ 2 ∷ 2 ∷ 1 ∷ 3 ∷ 1 ∷ 3 ∷ 3 ∷ 4 ∷ 4 ∷ 1 ∷ 1
    ∷ 2 ∷ 2 ∷ 3 ∷ 3
    ∷ 2 ∷ 1 ∷ 2 ∷ 2 ∷ 3 ∷ 4 ∷ 4
    ∷ 2 ∷ 3
    ∷ []

-- the kinds are the numbers from 1 to 30
abbrev pub known : ℕ → Bool
known k = nat_lt 0 k && nat_lt k 31

abbrev pub field_count : ℕ → ℕ
field_count k = slice_index field_counts k

-- the family of a kind
abbrev pub family_of_kind : ℕ → Option Family
family_of_kind k =
    cond (nat_lt k 1) None
    (cond (nat_lt k 18) (Some family.Directory)
    (cond (nat_lt k 22) (Some family.Consent)
    (cond (nat_lt k 29) (Some family.Session)
    (cond (nat_lt k 31) (Some family.Question) None))))
