use Rattle.std.proofs.Common.{◌≡◌, ◌+◌, ◌≤◌, length, drop, filter}
use Rattle.register.specs.ListMeaning.{of_owner}
use Rattle.register.proofs.list_register.ListRegister.count.Given as goal

-- those so far and those to come are all
abbrev pub invariant-loop-consent : goal.invariant-loop-consent
invariant-loop-consent l =
    (l.many ≤ l.consent-index)
    × (l.many + length (filter (of_owner l.owner) (drop l.consent-index l.consent-items)) ≡ length (filter (of_owner l.owner) l.consent-items))
