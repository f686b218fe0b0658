use Rattle.ledger_laws.proofs.Histories.{from_bare}
use Rattle.ledger_laws.proofs.history.history.Goals as goal

pub returns : goal.returns
returns c = from_bare c.args.events.now c.new-ledgers.result _ c.new-ledgers.ensures assumption
