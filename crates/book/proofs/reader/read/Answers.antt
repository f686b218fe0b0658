use Rattle.std.proofs.Common.{arith}
use Rattle.book.proofs.Framing.{framed}
use Rattle.book.proofs.reader.read.Goals as goal

pub returns : goal.returns
returns c =
    let reads = c.ask.ensures.reads in
    record { reads = reads; framed = framed (λ i. omega (arith, c.type_inv.book i)) reads; filed = c.ask.ensures.filed }
