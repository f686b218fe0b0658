-- A reading of a whole book, turn by turn: a record that was read is one entry more, and where no record stands the
-- entries are all there are.
use Rattle.std.proofs.Common.{◌≡◌, ℕ, ◌+◌, ◌<◌, ◌≤◌, false, List, [], ◌∷◌, ◌++◌, length, sym, refl, ap, ◌∙◌, subst, IfSome, Some, Option, arith}
use Rattle.std.proofs.lemmas.Grind.{common_steps}
use Rattle.calls.specs.Layout.{layout}
use Rattle.calls.specs.declared.command.Command.{Command}
use Rattle.calls.specs.declared.command.Family.{Family}
use Rattle.book.specs.Reading.{found, reading, is_record}
use Rattle.book.specs.Handed.{kind_of, bytes_of}
use Rattle.book.specs.Handed as handed
use Rattle.book.specs.Commanded.{Asks}
use Rattle.book.specs.Framing.{Framed}
use Rattle.book.specs.Walking.{Passed, Stopped}
use Rattle.book.specs.declared.records.Records.{Records}
use Rattle.book.specs.Tiling.{Entry, Tiles, Stops, Surveyed, Ending, counted, tallied, none_yet, stop_place}
use Rattle.book.specs.declared.types.Record.{Record}
use Rattle.book.specs.declared.types.Tally.{Tally}
use Rattle.book.proofs.Commanded.{same_words}
use Rattle.book.proofs.Questions.{found_passes}
use Rattle.book.proofs.Tiling.{Entered, size_of, tiles_more, stops_only}

-- s has come past the entries es of the book bs
pub record Walked (bs : List ℕ) (s : Records) (es : List Entry) : Type 0 where
  pub book : s.book.now ≡ bs
  pub tiles : Tiles bs 0 es s.at
  pub large : 65536 < length bs → s.at ≡ 0

-- a record that was read and asks for c is an entry of c
record ReadEntry (bs : List ℕ) (at : ℕ) (x : Record) (c : Command) : Type 0 where
  entry : Entry
  entered : Entered bs at entry
  command : entry.command ≡ c
  size : size_of entry ≡ handed.size_of x

read_entry : (bs : List ℕ) (at : ℕ) (x : Record) (c : Command) → Framed bs at (found (kind_of x) (bytes_of x)) → Asks x c → ReadEntry bs at x c
read_entry bs at x c framed a =
    let it = framed.stands (kind_of x) (bytes_of x) refl in
    let fields : (layout c).fields ≡ it.1 = same_words (layout c).fields it.1 (a.fields ∙ it.3) in
    record {
      entry = record { command = c; answer = it.0 };
      entered = grind (arith, common_steps, fields, it.2.bytes, a.kind);
      command = refl;
      size = grind (arith, fields, it.2.counted);
    }

-- past one record more, which asks for the command c, is past one entry more of that command
pub record Step (bs : List ℕ) (s : Records) (es : List Entry) (c : Command) : Type 0 where
  pub entry : Entry
  pub command : entry.command ≡ c
  pub walked : Walked bs s (es ++ entry ∷ [])

pub walk_more : {bs : List ℕ} {s t : Records} {es : List Entry} {x : Record} {o : Option Command} {c : Command} → Walked bs s es → Passed s x t → IfSome o (Asks x) → o ≡ Some c → Step bs t es c
walk_more {bs} {s} {t} {es} {x} {o} {c} w p asked is =
    let it = read_entry s.book.now s.at x c p.framed (subst (λ q. IfSome q (Asks x)) is asked) in
    let entered = subst (λ b. Entered b s.at it.entry) w.book it.entered in
    let small : length bs ≤ 65536 = subst (λ b. length b ≤ 65536) w.book (found_passes s.book.now s.at (sym p.reads)).passes.small in
    record {
      entry = it.entry;
      command = it.command;
      walked =
          record {
            book = ap (λ b. b.now) p.same ∙ w.book;
            tiles = subst (Tiles bs 0 (es ++ it.entry ∷ [])) (ap (λ n. s.at + n) it.size ∙ sym p.further) (tiles_more bs es s.at it.entry w.tiles entered);
            large = λ big. absurd (omega (arith, big, small));
          };
    }

-- how many there are in all
abbrev pub total : Tally → ℕ
total t = t.directory + t.consent + t.session + t.question

pub total_counted : (f : Family) (t : Tally) → total (counted f t) ≡ total t + 1
total_counted f t = grind arith

-- where the reading stops the entries are all there are
pub surveyed : (bs : List ℕ) (t : Tally) (e : Ending) (s : Records) (es : List Entry) → Walked bs s es → t ≡ tallied none_yet es → is_record (reading s.book.now s.at) ≡ false → Stopped s e → Surveyed bs (record { tally = t; ending = e })
surveyed bs t e s es w tally none stopped =
    let stop = stopped none in
    let no_record : is_record (reading bs (stop_place e)) ≡ false = grind (arith, none, stop.0, w.book) in
    let stops : Stops bs (stop_place e) = record { no_record = no_record; large = λ big. stop.0 ∙ w.large big } in
    let tiles : Tiles bs 0 es (stop_place e) = subst (Tiles bs 0 es) (sym stop.0) w.tiles in
    record {
      entries = es;
      tiles = tiles;
      stops = stops;
      finds = grind (arith, stop.0, stop.1, w.book);
      tally = tally;
      only = λ others to it halt. stops_only bs others es to (stop_place e) it halt tiles stops;
    }
