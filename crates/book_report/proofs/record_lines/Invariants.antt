use Rattle.std.proofs.Common.{◌≡◌, List, vec_items}
use Rattle.book.specs.Tiling.{Entry}
use Rattle.book.proofs.Surveyed.{Walked}
use Rattle.book_report.specs.Report.{record_lines}
use Rattle.book_report.proofs.record_lines.Given as goal

-- the reading has come past some entries, and their lines are written
abbrev pub invariant-loop-record : goal.invariant-loop-record
invariant-loop-record l = (es : List Entry) × Walked l.book l.record-iterator es × (vec_items l.out ≡ record_lines 0 es)
