use Rattle.std.proofs.Common.{ap, rules}
use Rattle.ledger.specs.Answers.{Answer}
use Rattle.ledger.specs.Table.{ledgers_of}
use Rattle.ledger.proofs.Tables.{table_sound}
use Rattle.ledger_laws.proofs.Once.{once_answer, left_at_once}
use Rattle.ledger_laws.proofs.draws.draw_then_close.Goals as goal

pub returns : goal.returns
returns c =
    let o = c.args.owner in
    let u = c.args.usage in
    let f = ledgers_of c.args.ledgers.now in
    let g = ledgers_of c.draw.new.self in
    let sound = table_sound c.args.ledgers.now.all o in
    let drew = c.in_ok-permit.ensures in
    let accepted = ap (λ (a : Answer). a.number) drew.answer in
    let permit = c.in_ok-permit.permit in
    record {
      answer = once_answer c.args.closing o u f g sound accepted c.draw.ensures.left permit.number.owner permit.number.serial drew.serial.0 drew.serial.1 _ (search rules);
      left = left_at_once c.args.closing o u f g sound accepted c.draw.ensures.left permit.number.owner permit.number.serial drew.serial.0 drew.serial.1 _ (search rules);
    }
