use Rattle.std.proofs.Common.{◌≡◌, ◌++◌, map, take, drop, count_by}
use Rattle.ledger.specs.Places.{meets, cleared, permits_of}
use Rattle.ledger.proofs.ledger.places.close.Given as goal

abbrev pub invariant-loop-place : goal.invariant-loop-place
invariant-loop-place l =
    (l.closed ≡ count_by (meets (permits_of l.which)) (take l.place-index l.initial.places))
    × (l.places ≡ map (cleared (permits_of l.which)) (take l.place-index l.initial.places) ++ drop l.place-index l.initial.places)
