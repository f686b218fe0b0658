-- The reach of a set of roles: every role that one of its members is above or equal to.
use Rattle.std.specs.Prelude.{ℕ, zero, suc, Bool, false, not, ◌&&◌, ◌||◌}
use Rattle.vocabulary.specs.Tables.{only, some_below}
use Rattle.hierarchy.specs.Inheritance.{Pairs}

-- the immediate juniors of the roles in a set
unfoldable pub juniors_of : Pairs → (ℕ → Bool) → ℕ → Bool
juniors_of pairs set d = some_below 64 (λ a. set a && pairs a d)

-- what is in the set, or below it by fewer than n steps
unfoldable pub within_steps : Pairs → ℕ → (ℕ → Bool) → ℕ → Bool
within_steps pairs zero set r = false
within_steps pairs (suc n) set r = set r || within_steps pairs n (juniors_of pairs set) r

-- no chain among 64 roles that has no circle has more than 63 steps
unfoldable pub reach_of : Pairs → (ℕ → Bool) → ℕ → Bool
reach_of pairs set = within_steps pairs 65 set

-- every role of the first set is in the second
unfoldable pub all_in : (ℕ → Bool) → (ℕ → Bool) → Bool
all_in set other = not (some_below 64 (λ r. set r && not (other r)))

-- whether the role a is above or equal to d: the reach of a alone
abbrev pub above_or_equal : Pairs → ℕ → ℕ → Bool
above_or_equal pairs a d = reach_of pairs (only a) d
