use Rattle.std.proofs.Common.{◌<◌, [], length, Ok, refl, rules}
use Rattle.ledger.specs.Answers.{done_answer}
use Rattle.ledger.specs.Places.{permits_of}
use Rattle.ledger.specs.States.{closed}
use Rattle.ledger.specs.declared.place.Closing.TheVariants.{Lapse}
use Rattle.ledger.specs.declared.place.Which.TheVariants.{All}
use Rattle.ledger.proofs.Tables.{table_answer, table_left}
use Rattle.ledger.proofs.ledgers.Ledgers.lapse_owner.Goals as goal

pub returns : goal.returns
returns c =
    let ls = c.args.self.now.all in
    let o = c.args.owner in
    let was = c.index-self-owner.result in
    let in_all : o < length ls = search rules in
    let lt = c.if-owner-ge128.false in
    record {
      answer = table_answer ls o was in_all lt (λ _. []) (done_answer (Ok tt)) (λ _. []) [] refl;
      left = table_left ls o was in_all lt (λ _. []) c.close.new.self (closed Lapse (permits_of All)) c.close.ensures.left;
    }
