use Rattle.std.proofs.Common.{reverse, ◌∙◌}
use Rattle.ledger.specs.Table.{ledgers_of}
use Rattle.ledger_laws.specs.Fates.{account}
use Rattle.ledger_laws.proofs.Histories.{answer_told}
use Rattle.ledger_laws.proofs.history.next_answer.Goals as goal

pub returns : goal.returns
returns c =
    let o = c.args.owner in
    c.call.ensures.answer
    ∙ answer_told o c.args.made (account o (reverse c.args.events.now)) (ledgers_of c.history-ledgers.result) (c.history-ledgers.ensures o)
