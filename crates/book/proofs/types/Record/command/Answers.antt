use Rattle.std.proofs.Common.{◌≡◌, ◌/◌, length, take, ◌∙◌}
use Rattle.book.specs.Format.{word_bytes}
use Rattle.book.specs.Handed.{bytes_of}
use Rattle.book.proofs.Commanded.{only_asked}
use Rattle.book.proofs.types.Record.command.Goals as goal

pub returns-clause-only : goal.returns-clause-only
returns-clause-only c =
    let x = c.args.self.now in
    let few = c.if-not-is_whole.ensures.few tt in
    let bytes = c.fields-fields.ensures in
    let n = length c.fields-fields.result.now / 2 in
    let fields : word_bytes (take n c.words_of-words.result) ≡ bytes_of x =
    c.words_of-words.ensures n (rw bytes few.four) (rw bytes few.words) ∙ bytes
    in
    only_asked x _ _ c.kind.ensures fields c.from_fields.ensures.only
