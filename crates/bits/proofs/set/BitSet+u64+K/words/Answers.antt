use Rattle.std.proofs.Common.{◌≡◌, ℕ, ◌/◌, ◌%◌, List, [], ◌∷◌, sym, ap, ◌∙◌, arith}
use Rattle.bits.specs.Sets.{has, joined}
use Rattle.bits.proofs.Words.{joined_spread, four_small}
use Rattle.bits.proofs.set.«BitSet+u64+K».words.Goals as goal

pub returns : goal.returns
returns g c =
    let bits = c.args.self.bits in
    let words : List ℕ = (bits % 65536) ∷ (bits / 65536 % 65536) ∷ (bits / 4294967296 % 65536) ∷ (bits / 281474976710656) ∷ [] in
    let value : joined words ≡ bits = omega arith in
    record {
      value = value;
      members = sym (joined_spread words (four_small words (omega arith) (omega arith) (omega arith) (omega arith) (omega arith))) ∙ ap has value;
    }
