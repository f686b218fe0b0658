use Rattle.std.proofs.Common.{◌≡◌, ◌+◌, ◌*◌, ◌≤◌, length, drop}
use Rattle.lines.specs.Lines.{text, with_fields}
use Rattle.lines.proofs.command_line.Given as goal

-- what is left of the fields, behind the line so far, is all of them behind the line at the start
abbrev pub invariant-loop-word : goal.invariant-loop-word
invariant-loop-word l =
    (length (text l.line) ≤ 62 + 21 * l.word-index)
    × (with_fields (text l.line) (drop l.word-index l.fields) ≡ with_fields (text l.initial.line) l.fields)
