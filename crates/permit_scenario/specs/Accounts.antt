-- Accounts whose counts add up.
use Rattle.std.specs.Prelude.{ℕ, ◌+◌, map, Bool, true, ◌&&◌, List, [], ◌∷◌, ◌==◌}
use Rattle.ledger.specs.declared.counts.Counts.{Counts}
use Rattle.permit_scenario.specs.declared.line.Account.{Account}

abbrev pub adds_up : Counts → Bool
adds_up c = c.issued == c.entered + (c.handed_back + (c.lapsed + c.«open»))

abbrev pub all_add_up : List Account → Bool
all_add_up [] = true
all_add_up (a ∷ accounts) = adds_up a.counts && all_add_up accounts

-- whose the accounts are
abbrev pub owners_of : List Account → List ℕ
owners_of = map (λ a. a.owner)
