use Rattle.std.proofs.Common.{◌≡◌, sym, ap, ◌∙◌, arith}
use Rattle.bits.specs.Sets.{has, joined}
use Rattle.bits.proofs.Words.{joined_four, joined_spread, four_small}
use Rattle.bits.proofs.set.«BitSet+u64+K».from_words.Goals as goal

pub returns : goal.returns
returns g c =
    let words = c.args.words in
    let value : c.from_bits.result.bits ≡ joined words = c.from_bits.ensures ∙ sym (joined_four words (omega arith)) in
    record { value = value; members = ap has value ∙ joined_spread words (four_small words (omega arith) (omega arith) (omega arith) (omega arith) (omega arith)) }
