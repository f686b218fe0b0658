use Rattle.std.proofs.Common.{◌<◌, [], length, rules}
use Rattle.ledger.specs.Answers.{done_answer}
use Rattle.ledger.specs.Places.{permits_of}
use Rattle.ledger.specs.States.{closed, close_questions}
use Rattle.ledger.specs.declared.place.Which.TheVariants.{Serial}
use Rattle.ledger.proofs.Tables.{table_answer, table_left}
use Rattle.ledger.proofs.ledgers.Ledgers.close_serial.Goals as goal

pub returns : goal.returns
returns c =
    let ls = c.args.self.now.all in
    let o = c.args.number.owner in
    let n = c.args.number.serial in
    let was = c.index-self-number.result in
    let in_all : o < length ls = search rules in
    let lt = c.if-number-ge128.false in
    record {
      answer = table_answer ls o was in_all lt (close_questions n) (done_answer c.settle.result) (λ _. []) [] c.settle.ensures.answer;
      left = table_left ls o was in_all lt (close_questions n) c.settle.new.self (closed c.args.closing (permits_of (Serial n))) (search rules);
    }
