-- The lines of the entries, one after another.
use Rattle.std.proofs.Common.{◌≡◌, ℕ, ◌+◌, List, [], ◌∷◌, ◌++◌, length, sym, ap, ◌∙◌, append_assoc, append-nil, arith, length-append}
use Rattle.book.specs.Tiling.{Entry, entry_bytes, book_bytes}
use Rattle.book_report.specs.Report.{record_lines}
use Rattle.lines.specs.Lines.{command_line}

-- one entry more is one line more
pub lines_more : (from : ℕ) (es : List Entry) (e : Entry) (at : ℕ) → from + length (book_bytes es) ≡ at → record_lines from (es ++ e ∷ []) ≡ record_lines from es ++ command_line at e.command
lines_more from [] e at here = append-nil _ ∙ ap (λ n. command_line n e.command) (omega (arith, here))
lines_more from (f ∷ es) e at here =
    ap (λ l. command_line from f.command ++ l)
    (lines_more (from + length (entry_bytes f)) es e at (omega (arith, here, length-append (entry_bytes f) (book_bytes es))))
    ∙ sym (append_assoc (command_line from f.command) (record_lines (from + length (entry_bytes f)) es) (command_line at e.command))
