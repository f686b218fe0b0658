use Rattle.ledger.proofs.Tables.{table_sound}
use Rattle.ledger.proofs.ledgers.Ledgers.stands.Goals as goal

pub returns : goal.returns
returns c = table_sound c.args.self.now.all
