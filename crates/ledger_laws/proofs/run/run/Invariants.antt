use Rattle.std.proofs.Common.{◌≡◌, ℕ, ◌<◌, ◌≤◌, List, ◌++◌, reverse, take}
use Rattle.ledger.specs.Table.{ledgers_of}
use Rattle.ledger_laws.specs.Events.{all_left}
use Rattle.ledger_laws.specs.Fates.{account, Accounted}
use Rattle.ledger_laws.specs.declared.event.LedgerEvent.{LedgerEvent}
use Rattle.ledger_laws.proofs.run.run.Given as goal

abbrev pub invariant-loop-event : goal.invariant-loop-event
invariant-loop-event l =
    (ledgers_of l.ledgers ≡ all_left (take l.event-index l.events) (ledgers_of l.initial.ledgers))
    × ((o : ℕ) → (ledgers_of l.initial.ledgers o).issued ≤ (ledgers_of l.ledgers o).issued)
    × ((o : ℕ) (before : List LedgerEvent) → o < 128 → Accounted (account o before) (ledgers_of l.initial.ledgers o) → Accounted (account o (reverse (take l.event-index l.events) ++ before)) (ledgers_of l.ledgers o))
