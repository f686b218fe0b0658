-- What a record that was handed out holds.
use Rattle.std.specs.Prelude.{◌≡◌, ℕ, ◌+◌, ◌*◌, ◌≤◌, true, List, length, Some, None, Option, Ok, Err, Result}
use Rattle.calls.specs.Layout.{family_of_kind, field_count, known}
use Rattle.calls.specs.declared.command.Family.{Family}
use Rattle.calls.specs.declared.command.Family.TheVariants as family
use Rattle.book.specs.Numbers.{fault_number}
use Rattle.book.specs.Reading.{Found, ends, faulty, found}
use Rattle.book.specs.declared.types.Fault.{Fault}
use Rattle.book.specs.declared.types.Frame.{Frame}
use Rattle.book.specs.declared.types.Record.{Record}
use Rattle.book.specs.declared.types.Record.TheVariants.{Directory, Consent, Session, Question}

abbrev pub frame_of : Record → Frame
frame_of (Directory x) = x
frame_of (Consent x) = x
frame_of (Session x) = x
frame_of (Question x) = x

abbrev pub place_of : Record → ℕ
place_of x = (frame_of x).place

abbrev pub kind_of : Record → ℕ
kind_of x = (frame_of x).kind

abbrev pub bytes_of : Record → List ℕ
bytes_of x = (frame_of x).fields.now

abbrev pub family_of : Record → Family
family_of (Directory x) = family.Directory
family_of (Consent x) = family.Consent
family_of (Session x) = family.Session
family_of (Question x) = family.Question

-- what a reader gives back: a record, none at the end, or a fault
abbrev pub Reading : Type 0
Reading = Result (Option Record) Fault

-- what a reader's result says of the book
abbrev pub seen : Reading → Found
seen (Ok None) = ends
seen (Ok (Some x)) = found (kind_of x) (bytes_of x)
seen (Err f) = faulty (fault_number f)

-- how many bytes the whole record takes
abbrev pub size_of : Record → ℕ
size_of x = 6 + 2 * field_count (kind_of x)

-- a record read at the byte at has that place and a known kind of its family, has as many field bytes as its kind
-- has, and lies within the book
pub record Filed (bs : List ℕ) (at : ℕ) (x : Record) : Type 0 where
  pub place : place_of x ≡ at
  pub family : family_of_kind (kind_of x) ≡ Some (family_of x)
  pub kind_known : known (kind_of x) ≡ true
  pub counted : length (bytes_of x) ≡ 2 * field_count (kind_of x)
  pub inside : at + size_of x ≤ length bs

abbrev pub Files : List ℕ → ℕ → Reading → Type 0
Files bs at (Ok None) = Unit {0}
Files bs at (Ok (Some x)) = Filed bs at x
Files bs at (Err f) = Unit {0}
