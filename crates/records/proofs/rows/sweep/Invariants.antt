use Rattle.std.proofs.Common.{◌≤◌, Bool}
use Rattle.std.proofs.lemmas.List.Filters.{FiltersInPlace}
use Rattle.records.specs.Lists.{Tests}
use Rattle.records.proofs.rows.sweep.Given as goal

abbrev pub invariant-loop-i : goal.invariant-loop-i
invariant-loop-i g l = (l.n ≤ l.i) × ((keeps : _ → Bool) → Tests g.F.Fn l.keep keeps → FiltersInPlace keeps l.initial.places l.places l.n l.i)
