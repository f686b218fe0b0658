-- What the questions look at. The kernel's state has it, and so has the account that an outsider keeps.
use Rattle.std.specs.Prelude.{ℕ, Option}
use Rattle.register.specs.Meaning.{Consents, Register, held}
use Rattle.ledger.specs.Places.{usage_in}
use Rattle.ledger.specs.States.{LedgerState, opens}
use Rattle.ledger.specs.declared.place.Use.{Use}
use Rattle.rules.specs.State.{Tables, State, Bounds}

-- the counts of an owner's ledger, and what each open serial was drawn for
pub record LedgerView : Type 0 where
  pub issued : ℕ
  pub entered : ℕ
  pub handed_back : ℕ
  pub lapsed : ℕ
  pub still_open : ℕ
  pub uses : ℕ → Option Use

pub record View : Type 0 where
  pub tables : Tables
  pub word : Consents
  pub ledger : ℕ → LedgerView

abbrev pub ledger_view : LedgerState → LedgerView
ledger_view l = record { issued = l.issued; entered = l.entered; handed_back = l.handed_back; lapsed = l.lapsed; still_open = opens l; uses = usage_in l.places }

abbrev pub view : State → View
view s = record { tables = s.tables; word = held s.register; ledger = λ o. ledger_view (s.ledgers o) }

-- the register that a view speaks of
abbrev pub register_in : Bounds → View → Register
register_in b v = record { limit = b.limit; entries = v.word }
