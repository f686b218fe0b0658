use Rattle.std.proofs.Common.{◌≡◌, ◌≤◌, List}
use Rattle.book.specs.Tiling.{Entry, tallied, none_yet}
use Rattle.book.proofs.Surveyed.{Walked, total}
use Rattle.book.proofs.survey.survey.Given as goal

-- the reading has come past some entries, and they are tallied
abbrev pub invariant-loop-record : goal.invariant-loop-record
invariant-loop-record l =
    (total l.tally ≤ l.records.at)
    × ((es : List Entry) × Walked l.book l.records es × (l.tally ≡ tallied none_yet es))
