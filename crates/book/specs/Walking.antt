-- Going from one record of a book to the next.
use Rattle.std.specs.Prelude.{◌≡◌, ◌+◌, false, Some, None, Option}
use Rattle.book.specs.Framing.{Framed}
use Rattle.book.specs.Reading.{found, reading, is_record}
use Rattle.book.specs.Handed.{kind_of, bytes_of, size_of, Filed}
use Rattle.book.specs.Tiling.{Ending, stop_place, stop_found}
use Rattle.book.specs.declared.types.Record.{Record}
use Rattle.book.specs.declared.records.Records.{Records}

-- the record x stands at the place s has come to, and t has come past it
pub record Passed (s : Records) (x : Record) (t : Records) : Type 0 where
  pub reads : found (kind_of x) (bytes_of x) ≡ reading s.book.now s.at
  pub framed : Framed s.book.now s.at (found (kind_of x) (bytes_of x))
  pub filed : Filed s.book.now s.at x
  pub same : t.book ≡ s.book
  pub further : t.at ≡ s.at + size_of x

-- a step from s to t: past the record there, or to nowhere, since there is none
abbrev pub Steps : Records → Option Record → Records → Type 0
Steps s None t = (is_record (reading t.book.now t.at) ≡ false) × (t ≡ s)
Steps s (Some x) t = Passed s x t

-- where no record is left, the reading stops at e
abbrev pub Stopped : Records → Ending → Type 0
Stopped s e = is_record (reading s.book.now s.at) ≡ false → (stop_place e ≡ s.at) × (stop_found e ≡ reading s.book.now s.at)
