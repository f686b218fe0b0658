-- Which command a record asks for.
use Rattle.std.specs.Prelude.{◌≡◌, ◌*◌, ◌/◌, ◌≤◌, Bool, ◌&&◌, length, ◌==◌}
use Rattle.calls.specs.Layout.{layout, known, field_count}
use Rattle.calls.specs.declared.command.Command.{Command}
use Rattle.book.specs.Format.{word_bytes}
use Rattle.book.specs.Handed.{kind_of, bytes_of}
use Rattle.book.specs.declared.types.Record.{Record}

-- the record x asks for the command c: it has its kind, and the bytes of its fields in their order
pub record Asks (x : Record) (c : Command) : Type 0 where
  pub kind : (layout c).kind ≡ kind_of x
  pub fields : word_bytes (layout c).fields ≡ bytes_of x

-- its kind is known, and it has as many field bytes as its kind has
abbrev pub is_whole : Record → Bool
is_whole x = known (kind_of x) && length (bytes_of x) == 2 * field_count (kind_of x)

-- its field bytes make up at most four words, which is what the longest command has
pub record FewFields (x : Record) : Type 0 where
  pub words : length (bytes_of x) ≡ 2 * (length (bytes_of x) / 2)
  pub four : length (bytes_of x) / 2 ≤ 4
