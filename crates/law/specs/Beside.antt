-- What else is true at every point of every history.
use Rattle.std.specs.Prelude.{◌≡◌, ℕ, ◌+◌, ◌<◌, true, List}
use Rattle.ledger.specs.declared.place.Use.{Use}
use Rattle.directory_laws.specs.Soundness.{Sound}
use Rattle.rules.specs.State.{belongs_to, owner_of, Tables, State, Bounds}
use Rattle.rules.specs.Views.{view}
use Rattle.rules.specs.Numbers.{number}
use Rattle.rules.specs.Rules.{next}
use Rattle.rules.specs.declared.call.Call.{Call}
use Rattle.rules.specs.declared.call.Call.TheVariants.{Draw, Enter, HandBack}
use Rattle.law.specs.Histories.{state_of}

pub record SoundTables (t : Tables) : Type 0 where
  -- active roles are authorised, sessions are of existing users, assignments and inheritances name what exists
  pub directory : Sound t.directory
  -- owners are in range, and a personal object's owner exists
  pub owners_inside : (o : ℕ) → t.owner o ≡ true → o < 128
  pub owner_exists : (b o : ℕ) → belongs_to o (t.object b) ≡ true → t.owner o ≡ true

-- the permit that this draw is about to issue is the serial n of the owner o
abbrev pub drawn_owner : State → Use → ℕ
drawn_owner s u = owner_of (s.tables.object u.object)

abbrev pub drawn_serial : State → Use → ℕ
drawn_serial s u = (s.ledgers (drawn_owner s u)).issued + 1

pub record Beside (k : Bounds) (calls : List Call) : Type 0 where
  pub tables : SoundTables (state_of k calls).tables
  -- the entry inside a use and the handing back inside a look, right after a draw that was accepted, cannot fail
  pub entered : (u : Use) → number k (view (state_of k calls)) (Draw u) ≡ 0 → number k (view (next k (Draw u) (state_of k calls))) (Enter (drawn_owner (state_of k calls) u) (drawn_serial (state_of k calls) u)) ≡ 0
  pub handed_back : (u : Use) → number k (view (state_of k calls)) (Draw u) ≡ 0 → number k (view (next k (Draw u) (state_of k calls))) (HandBack (drawn_owner (state_of k calls) u) (drawn_serial (state_of k calls) u)) ≡ 0
