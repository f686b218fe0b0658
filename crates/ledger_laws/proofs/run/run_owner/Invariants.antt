use Rattle.std.proofs.Common.{◌≡◌, ℕ, take}
use Rattle.ledger.specs.Table.{ledgers_of}
use Rattle.ledger_laws.specs.Events.{calls_left}
use Rattle.ledger_laws.proofs.run.run_owner.Given as goal

abbrev pub invariant-loop-made : goal.invariant-loop-made
invariant-loop-made l =
    (ledgers_of l.ledgers ≡ calls_left l.owner (take l.made-index l.calls) (ledgers_of l.initial.ledgers))
    × ((k : ℕ) → (k ≡ l.owner → ⊥) → ledgers_of l.ledgers k ≡ ledgers_of l.initial.ledgers k)
