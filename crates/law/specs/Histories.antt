-- Histories: any list of calls on a bare kernel.
use Rattle.std.specs.Prelude.{ℕ, cond, List, [], ◌∷◌}
use Rattle.std.proofs.Math.Option.{Option, none, some}
use Rattle.vocabulary.specs.Questions.{is_accepted}
use Rattle.rules.specs.Told.{Told}
use Rattle.rules.specs.State.{State, Bounds, bare_state}
use Rattle.rules.specs.Views.{view}
use Rattle.rules.specs.Numbers.{number}
use Rattle.rules.specs.Rules.{answer, next, speaks, concerns}
use Rattle.rules.specs.declared.call.Call.{Call}
use Rattle.law.specs.Account.{Event, Past}

-- what the account is told of a call
abbrev pub event : Bounds → State → Call → Event
event k s c = record { call = c; accepted = is_accepted (number k (view s) c) }

-- the state after the calls, and the past upon an earlier one
abbrev pub state_after : Bounds → State → List Call → State
state_after k s [] = s
state_after k s (c ∷ cs) = state_after k (next k c s) cs

abbrev pub past_after : Bounds → State → Past → List Call → Past
past_after k s past [] = past
past_after k s past (c ∷ cs) = past_after k (next k c s) (event k s c ∷ past) cs

-- the same from a bare kernel
abbrev pub state_of : Bounds → List Call → State
state_of k calls = state_after k (bare_state k) calls

abbrev pub past_of : Bounds → List Call → Past
past_of k calls = past_after k (bare_state k) [] calls

-- the calls without the gives and withdrawals of the owner o
abbrev pub struck_out : ℕ → List Call → List Call
struck_out o [] = []
struck_out o (c ∷ cs) = cond (speaks c o) (struck_out o cs) (c ∷ struck_out o cs)

-- the answers of the calls that are left, but none where the call concerns o
abbrev pub heard_by : ℕ → Bounds → State → List Call → List (Option Told)
heard_by o k s [] = []
heard_by o k s (c ∷ cs) =
    cond (speaks c o) (heard_by o k (next k c s) cs)
    (cond (concerns c s.tables o) none (some (answer k (view s) c)) ∷ heard_by o k (next k c s) cs)
