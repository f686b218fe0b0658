-- What is printed of a book: a line for each record, how many there are of each family, and where it ends.
use Rattle.std.specs.Prelude.{◌≡◌, ℕ, ◌+◌, ◌*◌, cond, List, [], ◌∷◌, ◌++◌, length, drop, codes, decimal, nat_lt, Ok, Err}
use Rattle.calls.specs.Layout.{field_count}
use Rattle.calls.specs.declared.command.Family.TheVariants as family
use Rattle.book.specs.Format.{word}
use Rattle.book.specs.Tiling.{Entry, entry_bytes, Tiles, Stops, Surveyed, Ending}
use Rattle.book.specs.declared.types.Fault.{Fault}
use Rattle.book.specs.declared.types.Fault.TheVariants.{TooLarge, BadLength, UnknownKind, WrongFieldCount}
use Rattle.book.specs.declared.types.Survey.{Survey}
use Rattle.book.specs.declared.types.Tally.{Tally}
use Rattle.book_report.specs.declared.site.Site.{Site}
use Rattle.lines.specs.Lines.{command_line, count_line, end_line, bad_line}

-- a line for each entry, of which the first begins at the byte at
abbrev pub record_lines : ℕ → List Entry → List ℕ
record_lines at [] = []
record_lines at (e ∷ es) = command_line at e.command ++ record_lines (at + length (entry_bytes e)) es

abbrev pub count_lines : Tally → List ℕ
count_lines t =
    count_line family.Directory t.directory
    ++ (count_line family.Consent t.consent ++ (count_line family.Session t.session ++ count_line family.Question t.question))

-- the numbers that a sentence about a fault speaks of, where rest is what remains of the book from the fault on
abbrev pub site_of : ℕ → ℕ → List ℕ → Site
site_of size place rest = record { size = size; place = place; left = length rest; said = word rest 0; kind = word rest 2; due = 6 + 2 * field_count (word rest 2) }

-- what is wrong there
abbrev pub sentence : Site → Fault → List ℕ
sentence s TooLarge = codes "The book has " ++ (decimal s.size ++ codes " bytes, and the largest book has 65536.\n")
sentence s BadLength =
    cond (nat_lt s.left 6)
    (codes "The record at byte " ++ (decimal s.place ++ (codes " is cut short: only " ++ (decimal s.left ++ codes " of at least 6 bytes remain.\n"))))
    (cond (nat_lt s.said 6)
    (codes "The record at byte " ++ (decimal s.place ++ (codes " gives its length as " ++ (decimal s.said ++ codes ", and no record has fewer than 6 bytes.\n"))))
    (codes "The record at byte " ++ (decimal s.place ++ (codes " gives its length as " ++ (decimal s.said ++ (codes ", and only " ++ (decimal s.left ++ codes " bytes remain.\n")))))))
sentence s UnknownKind =
    codes "The record at byte " ++ (decimal s.place ++ (codes " is of kind " ++ (decimal s.kind ++ codes ", and the kinds are 1 to 30.\n")))
sentence s WrongFieldCount =
    codes "The record at byte " ++ (decimal s.place ++ (codes " gives its length as " ++ (decimal s.said ++ (codes ", and a record of kind " ++ (decimal s.kind ++ (codes " has " ++ (decimal s.due ++ codes " bytes.\n")))))))

-- the last lines
abbrev pub closing : List ℕ → Ending → List ℕ
closing bs (Ok size) = end_line size
closing bs (Err d) = sentence (site_of (length bs) d.place (drop d.place bs)) d.fault ++ bad_line d.place d.fault

-- the lines of the records of the book bs
pub record Listed (bs out : List ℕ) : Type 0 where
  pub entries : List Entry
  pub to : ℕ
  pub tiles : Tiles bs 0 entries to
  pub stops : Stops bs to
  pub lines : out ≡ record_lines 0 entries

-- out is what is printed of the book bs
pub record Reported (bs out : List ℕ) : Type 0 where
  pub survey : Survey
  pub surveyed : Surveyed bs survey
  pub text : out ≡ record_lines 0 surveyed.entries ++ (count_lines survey.tally ++ closing bs survey.ending)
