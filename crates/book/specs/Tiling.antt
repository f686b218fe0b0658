-- A book is its commands one after another, each with its answer, and then whatever is left.
use Rattle.std.specs.Prelude.{◌≡◌, ℕ, ◌+◌, ◌<◌, false, List, [], ◌∷◌, ◌++◌, length, drop, Ok, Err, Result}
use Rattle.calls.specs.Layout.{layout, family_of}
use Rattle.calls.specs.declared.command.Command.{Command}
use Rattle.calls.specs.declared.command.Family.{Family}
use Rattle.calls.specs.declared.command.Family.TheVariants as family
use Rattle.book.specs.Format.{record_bytes}
use Rattle.book.specs.Numbers.{fault_number}
use Rattle.book.specs.Reading.{Found, ends, faulty, reading, is_record}
use Rattle.book.specs.declared.types.Damage.{Damage}
use Rattle.book.specs.declared.types.Survey.{Survey}
use Rattle.book.specs.declared.types.Tally.{Tally}

-- a command as it stands in a book, with the word of its answer field
pub record Entry : Type 0 where
  pub command : Command
  pub answer : ℕ

abbrev pub entry_bytes : Entry → List ℕ
entry_bytes e = record_bytes (layout e.command).kind e.answer (layout e.command).fields

abbrev pub book_bytes : List Entry → List ℕ
book_bytes [] = []
book_bytes (e ∷ es) = entry_bytes e ++ book_bytes es

-- the entries es, without a gap, are the bytes of the book bs from the byte from up to the byte to
pub record Tiles (bs : List ℕ) (from : ℕ) (es : List Entry) (to : ℕ) : Type 0 where
  pub bytes : drop from bs ≡ book_bytes es ++ drop to bs
  pub long : from + length (book_bytes es) ≡ to

-- how many commands of each family there are
abbrev pub counted : Family → Tally → Tally
counted family.Directory t = record { directory = t.directory + 1; consent = t.consent; session = t.session; question = t.question }
counted family.Consent t = record { directory = t.directory; consent = t.consent + 1; session = t.session; question = t.question }
counted family.Session t = record { directory = t.directory; consent = t.consent; session = t.session + 1; question = t.question }
counted family.Question t = record { directory = t.directory; consent = t.consent; session = t.session; question = t.question + 1 }

abbrev pub tallied : Tally → List Entry → Tally
tallied t [] = t
tallied t (e ∷ es) = tallied (counted (family_of e.command) t) es

abbrev pub none_yet : Tally
none_yet = record { directory = 0; consent = 0; session = 0; question = 0 }

-- a book was read to its end, which is its length, or to its damage
abbrev pub Ending : Type 0
Ending = Result ℕ Damage

-- where the reading of a book stops, and what stands there
abbrev pub stop_place : Ending → ℕ
stop_place (Ok n) = n
stop_place (Err d) = d.place

abbrev pub stop_found : Ending → Found
stop_found (Ok n) = ends
stop_found (Err d) = faulty (fault_number d.fault)

-- the reading of the book bs stops at the byte to: no record stands there, and of a book that is too large nothing
-- was read
pub record Stops (bs : List ℕ) (to : ℕ) : Type 0 where
  pub no_record : is_record (reading bs to) ≡ false
  pub large : 65536 < length bs → to ≡ 0

-- a book was read from its first byte to where it ends or is damaged
pub record Surveyed (bs : List ℕ) (s : Survey) : Type 0 where
  pub entries : List Entry
  pub tiles : Tiles bs 0 entries (stop_place s.ending)
  pub stops : Stops bs (stop_place s.ending)
  pub finds : reading bs (stop_place s.ending) ≡ stop_found s.ending
  pub tally : s.tally ≡ tallied none_yet entries
  -- these are the only entries that tile the book up to where its reading stops
  pub only : (others : List Entry) (to : ℕ) → Tiles bs 0 others to → Stops bs to → (others ≡ entries) × (to ≡ stop_place s.ending)

-- the book bs became the book cs by the answer a at the byte at, and by nothing else: where that is the place of an
-- entry, every entry keeps its command, every other its answer, and what stands behind the entries is as it was
pub record AnswersAlone (bs cs : List ℕ) (at a : ℕ) : Type 0 where
  pub tiles : (before after : List Entry) (e : Entry) (to : ℕ) → Tiles bs 0 (before ++ e ∷ after) to → length (book_bytes before) ≡ at → Tiles cs 0 (before ++ record { command = e.command; answer = a } ∷ after) to
  pub stops : (before after : List Entry) (e : Entry) (to : ℕ) → Tiles bs 0 (before ++ e ∷ after) to → length (book_bytes before) ≡ at → reading cs to ≡ reading bs to
