use Rattle.std.proofs.Common.{replicate, refl}
use Rattle.register.proofs.BitWords.{empty_rows, wide_rows}
use Rattle.register.proofs.bit_register.BitRegister.new.Goals as goal

pub invariant_of-result : goal.invariant_of-result
invariant_of-result c = record { wide = wide_rows 128 (replicate 16 c.empty.result) refl }

pub returns : goal.returns
returns c o q t = empty_rows 128 16 c.empty.result c.empty.ensures.members o q t
