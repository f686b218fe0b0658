use Rattle.std.proofs.Common.{sym, ap, ◌∙◌, arith}
use Rattle.std.proofs.lemmas.Bool.{le-ltb}
use Rattle.bits.specs.Sets.{has}
use Rattle.bits.proofs.Bits.{has_test, has_high}
use Rattle.bits.proofs.set.BitSet.contains.Goals as goal

pub returns-then-n-WIDTH : goal.returns-then-n-WIDTH
returns-then-n-WIDTH g c = has_test c.widen-bits.result c.args.n ∙ ap (λ a. has a c.args.n) c.widen-bits.ensures.value

pub returns-else-n-WIDTH : goal.returns-else-n-WIDTH
returns-else-n-WIDTH g c =
    le-ltb c.args.n c.WIDTH.result (omega arith)
    ∙ sym (has_high g.W.Word.WIDTH c.widen-bits.result c.args.n c.widen-bits.ensures.fits (omega arith))
    ∙ ap (λ a. has a c.args.n) c.widen-bits.ensures.value
