use Rattle.std.proofs.Common.{◌≡◌, ◌<◌, ◌++◌, map, length, take, drop}
use Rattle.ledger.specs.Places.{permits_of}
use Rattle.ledger.specs.States.{state_of, closed}
use Rattle.ledger.specs.declared.place.Closing.TheVariants.{Lapse}
use Rattle.ledger.specs.declared.place.Which.TheVariants.{Sessions}
use Rattle.ledger.proofs.ledgers.Ledgers.lapse_sessions.Given as goal

abbrev pub invariant-loop-ledger : goal.invariant-loop-ledger
invariant-loop-ledger l =
    (length l.ledger-items ≡ length l.initial.ledger-items)
    × (0 < l.ledger-index → length l.initial.ledger-items ≡ 128)
    × (map state_of l.ledger-items ≡ map (closed Lapse (permits_of (Sessions l.sessions))) (take l.ledger-index (map state_of l.initial.ledger-items)) ++ drop l.ledger-index (map state_of l.initial.ledger-items))
