-- The law of histories.
use Rattle.std.specs.Prelude.{◌≡◌, ℕ, ◌+◌, ◌<◌, true, ◌≢◌, List}
use Rattle.hierarchy.specs.Laws.{Exactly}
use Rattle.ledger.specs.declared.place.Use.{Use}
use Rattle.ledger_laws.specs.Fates.{StillOpen, is_still_open, how_many, Accounted}
use Rattle.calls.specs.declared.command.Command.TheVariants.{Session as SessionFamily}
use Rattle.calls.specs.declared.command.Session.TheVariants.{Use as UseCommand, Look}
use Rattle.rules.specs.State.{owner_of, State, Bounds, bare_state}
use Rattle.rules.specs.Views.{view}
use Rattle.rules.specs.Coverage.{Covered}
use Rattle.rules.specs.Numbers.{number, use_in_range, use_of}
use Rattle.rules.specs.Rules.{answer, next}
use Rattle.rules.specs.declared.call.Call.{Call}
use Rattle.rules.specs.declared.call.Call.TheVariants.{Command as CommandCall, Draw, Enter}
use Rattle.law.specs.Account.{Past, tables_of, stands, permits, account_view}
use Rattle.law.specs.Histories.{state_of, past_of, struck_out, heard_by}

-- by the account a permit may be drawn for this use
pub record Drawable (past : Past) (u : Use) : Type 0 where
  pub in_range : use_in_range u ≡ true
  pub covered : Covered (tables_of past) (stands past) (owner_of ((tables_of past).object u.object)) u
  pub few_open : how_many is_still_open (permits past (owner_of ((tables_of past).object u.object))) < 8
  pub few_issued : (permits past (owner_of ((tables_of past).object u.object))).issued < 65535

-- by the account the permit (o, n) may be entered
pub record Enterable (past : Past) (o n : ℕ) : Type 0 where
  pub in_range : o < 128
  pub drawn_for : Use
  pub still_open : (permits past o).fate n ≡ StillOpen drawn_for
  pub covered : Covered (tables_of past) (stands past) o drawn_for

-- what a call, made after these calls, is answered and leaves
pub record Answered (k : Bounds) (calls : List Call) (c : Call) : Type 0 where
  -- the answer is the one that the questions give upon the account
  pub answers : answer k (view (state_of k calls)) c ≡ answer k (account_view (past_of k calls)) c
  -- a refused call leaves every table as it was, but that the permit of an entry refused with 19 lapses
  pub refused : (number k (view (state_of k calls)) c ≢ 0) → (number k (view (state_of k calls)) c ≢ 19) → next k c (state_of k calls) ≡ state_of k calls

-- at every point of every history
pub record Point (k : Bounds) (calls : List Call) : Type 0 where
  -- the tables are those that the accepted calls made, and the register's triples are the account's
  pub tables : (state_of k calls).tables ≡ tables_of (past_of k calls)
  pub triples : (state_of k calls).register.entries ≡ stands (past_of k calls)
  -- each owner's ledger has the account's counts, and each permit just one fate
  pub ledgers : (o : ℕ) → Accounted (permits (past_of k calls) o) ((state_of k calls).ledgers o)
  -- the counts add up
  pub adds : (o : ℕ) → ((state_of k calls).ledgers o).issued ≡ ((state_of k calls).ledgers o).entered + (((state_of k calls).ledgers o).handed_back + (((state_of k calls).ledgers o).lapsed + ((view (state_of k calls)).ledger o).still_open))
  -- whatever is called next
  pub next : (c : Call) → Answered k calls c
  -- a draw, also that inside a use or a look, is accepted exactly where it may be drawn by the account
  pub draws : (u : Use) → Exactly (number k (view (state_of k calls)) (Draw u) ≡ 0) (Drawable (past_of k calls) u)
  pub uses : (s p b q : ℕ) → Exactly (number k (view (state_of k calls)) (CommandCall (SessionFamily (UseCommand s p b q))) ≡ 0) (Drawable (past_of k calls) (use_of s p b q))
  pub looks : (s p b q : ℕ) → Exactly (number k (view (state_of k calls)) (CommandCall (SessionFamily (Look s p b q))) ≡ 0) (Drawable (past_of k calls) (use_of s p b q))
  -- an entry is accepted exactly where its permit is open and its use covered
  pub entries : (o n : ℕ) → Exactly (number k (view (state_of k calls)) (Enter o n) ≡ 0) (Enterable (past_of k calls) o n)

-- equal but for the consents and the ledger of the owner o
pub record Alike (o : ℕ) (s t : State) : Type 0 where
  pub tables : s.tables ≡ t.tables
  pub limit : s.register.limit ≡ t.register.limit
  pub consents : (k : ℕ) → (k ≢ o) → s.register.entries k ≡ t.register.entries k
  pub ledgers : (k : ℕ) → (k ≢ o) → s.ledgers k ≡ t.ledgers k

-- two histories that differ only in what the owner o gives and withdraws look alike to everyone else
pub record Unheard (k : Bounds) (o : ℕ) (calls others : List Call) : Type 0 where
  pub answers : heard_by o k (bare_state k) calls ≡ heard_by o k (bare_state k) others
  pub ends : Alike o (state_of k calls) (state_of k others)

abbrev pub Law : Type 0
Law = ((k : Bounds) (calls : List Call) → Point k calls)
    × ((k : Bounds) (o : ℕ) (calls others : List Call) → struck_out o calls ≡ struck_out o others → Unheard k o calls others)
