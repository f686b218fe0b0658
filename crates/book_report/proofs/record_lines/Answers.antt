use Rattle.std.proofs.Common.{◌≡◌, [], ◌∷◌, ◌++◌, sym, ◌∙◌}
use Rattle.lines.specs.Lines.{text, command_line}
use Rattle.book.proofs.Surveyed.{walk_more}
use Rattle.book_report.proofs.Lines.{lines_more}
use Rattle.book_report.proofs.record_lines.Goals as goal

pub loop-record-preserved : goal.loop-record-preserved
loop-record-preserved c =
    let so_far = c.loop-record.invariant in
    let passed = c.in-Some.ensures.steps in
    let next = walk_more so_far.1 passed c.command.ensures.found c.unwrap.ensures in
    let line : text c.command_line.result ≡ command_line c.loop-record.record-iterator.at next.entry.command =
    c.command_line.ensures ∙ (λ i. command_line ((c.place.ensures ∙ passed.filed.place) i) (sym next.command i))
    in (
      so_far.0 ++ next.entry ∷ [],
      next.walked,
      c.in_ok-put_line.ensures ∙ (λ i. so_far.2 i ++ line i) ∙ sym (lines_more 0 so_far.0 next.entry c.loop-record.record-iterator.at so_far.1.tiles.long),
    )
