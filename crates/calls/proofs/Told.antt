-- A command is told by its kind and its fields, and the table of field counts agrees with the layout of every command.
use Rattle.std.proofs.Common.{◌≡◌, Bool, true, ◌&&◌, eqb, length, arith}
use Rattle.calls.specs.Layout.{Layout, layout, known, field_count}
use Rattle.calls.specs.declared.command.Command.{Command}

-- a known kind with as many fields as the table says
abbrev pub counts : Layout → Bool
counts l = known l.kind && eqb (length l.fields) (field_count l.kind)

pub layout_counts : (c : Command) → counts (layout c) ≡ true
layout_counts c = grind arith

pub same_command : (c d : Command) → layout c ≡ layout d → c ≡ d
same_command c d e = grind (arith, e)
