-- What became of an owner's permits, told from the events alone.
use Rattle.std.specs.Prelude.{◌≡◌, ℕ, ◌+◌, Bool, true, false, cond, ◌&&◌, List, [], ◌∷◌, Some, None, Option, ◌==◌, nat_le, nat_lt}
use Rattle.vocabulary.specs.Questions.{asks, first_no}
use Rattle.bits.specs.Tables.{put, count_below}
use Rattle.ledger.specs.Places.{Permits, usage_in, permits_of}
use Rattle.ledger.specs.States.{LedgerState, opens}
use Rattle.ledger.specs.Table.{known}
use Rattle.ledger.specs.declared.place.Closing.{Closing}
use Rattle.ledger.specs.declared.place.Closing.TheVariants.{Entry, HandingBack, Lapse}
use Rattle.ledger.specs.declared.place.Use.{Use}
use Rattle.ledger.specs.declared.place.Which.TheVariants.{Serial, Sessions, All}
use Rattle.ledger_laws.specs.declared.event.LedgerEvent.{LedgerEvent}
use Rattle.ledger_laws.specs.declared.event.LedgerEvent.TheVariants.{Of, SessionsEnd}
use Rattle.ledger_laws.specs.declared.event.OwnerCall.{OwnerCall}
use Rattle.ledger_laws.specs.declared.event.OwnerCall.TheVariants.{Draw, Close, LapseAll}

-- a serial has exactly one of these
pub data Fate : Type 0 where
  NeverIssued : Fate
  StillOpen : Use → Fate
  WasEntered : Fate
  WasHandedBack : Fate
  HasLapsed : Fate

abbrev pub is_issued : Fate → Bool
is_issued NeverIssued = false
is_issued (StillOpen u) = true
is_issued WasEntered = true
is_issued WasHandedBack = true
is_issued HasLapsed = true

abbrev pub is_still_open : Fate → Bool
is_still_open NeverIssued = false
is_still_open (StillOpen u) = true
is_still_open WasEntered = false
is_still_open WasHandedBack = false
is_still_open HasLapsed = false

abbrev pub is_entered : Fate → Bool
is_entered NeverIssued = false
is_entered (StillOpen u) = false
is_entered WasEntered = true
is_entered WasHandedBack = false
is_entered HasLapsed = false

abbrev pub is_handed_back : Fate → Bool
is_handed_back NeverIssued = false
is_handed_back (StillOpen u) = false
is_handed_back WasEntered = false
is_handed_back WasHandedBack = true
is_handed_back HasLapsed = false

abbrev pub is_lapsed : Fate → Bool
is_lapsed NeverIssued = false
is_lapsed (StillOpen u) = false
is_lapsed WasEntered = false
is_lapsed WasHandedBack = false
is_lapsed HasLapsed = true

-- what an open permit was drawn for
abbrev pub open_use : Fate → Option Use
open_use NeverIssued = None
open_use (StillOpen u) = Some u
open_use WasEntered = None
open_use WasHandedBack = None
open_use HasLapsed = None

abbrev pub fate_by : Closing → Fate
fate_by Entry = WasEntered
fate_by HandingBack = WasHandedBack
fate_by Lapse = HasLapsed

-- the account of one owner: how many permits were issued, and what became of each serial
pub record Account : Type 0 where
  pub issued : ℕ
  pub fate : ℕ → Fate

abbrev pub nothing : Account
nothing = record { issued = 0; fate = λ n. NeverIssued }

-- how many of the issued serials have such a fate
abbrev pub how_many : (Fate → Bool) → Account → ℕ
how_many test a = count_below (λ n. test (a.fate n)) (a.issued + 1)

-- a permit more; a draw is accepted where fewer than 8 are open and fewer than 65,535 were issued
abbrev pub issue_step : Use → Account → Account
issue_step u a = record { issued = a.issued + 1; fate = put (a.issued + 1) (StillOpen u) a.fate }

abbrev pub draw_step : Use → Account → Account
draw_step u a = cond (nat_lt (how_many is_still_open a) 8 && nat_lt a.issued 65535) (issue_step u a) a

-- an open permit that is meant is closed, and nothing else changes
abbrev pub close_fate : Closing → (Use → Bool) → Fate → Fate
close_fate c meant NeverIssued = NeverIssued
close_fate c meant (StillOpen u) = cond (meant u) (fate_by c) (StillOpen u)
close_fate c meant WasEntered = WasEntered
close_fate c meant WasHandedBack = WasHandedBack
close_fate c meant HasLapsed = HasLapsed

abbrev pub close_step : Closing → Permits → Account → Account
close_step c these a = record { issued = a.issued; fate = λ n. close_fate c (these n) (a.fate n) }

abbrev pub call_step : OwnerCall → Account → Account
call_step (Draw u) a = draw_step u a
call_step (Close n c) a = close_step c (permits_of (Serial n)) a
call_step LapseAll a = close_step Lapse (permits_of All) a

-- a call for another owner does not concern this one
abbrev pub step : ℕ → LedgerEvent → Account → Account
step o (Of k call) a = cond (k == o) (call_step call a) a
step o (SessionsEnd ended) a = close_step Lapse (permits_of (Sessions ended)) a

-- the account of the owner o over the events, the latest first
unfoldable pub account : ℕ → List LedgerEvent → Account
account o [] = nothing
account o (e ∷ es) = step o e (account o es)

-- the number of the answer to a call for the owner o, from the account alone
abbrev pub account_answer : ℕ → OwnerCall → Account → ℕ
account_answer o (Draw u) a = first_no (known o ∷ asks 16 (nat_lt (how_many is_still_open a) 8) ∷ asks 17 (nat_lt a.issued 65535) ∷ [])
account_answer o (Close n c) a = first_no (known o ∷ asks 18 (is_still_open (a.fate n)) ∷ [])
account_answer o LapseAll a = first_no (known o ∷ [])

-- a ledger is as the account has it
pub record Accounted (a : Account) (s : LedgerState) : Type 0 where
  pub issued : s.issued ≡ a.issued
  pub entered : s.entered ≡ how_many is_entered a
  pub handed_back : s.handed_back ≡ how_many is_handed_back a
  pub lapsed : s.lapsed ≡ how_many is_lapsed a
  pub still_open : opens s ≡ how_many is_still_open a
  -- the open places have just the serials that are still open, with the uses that they were drawn for
  pub uses : usage_in s.places ≡ (λ n. open_use (a.fate n))
  -- the serials from 1 to issued have a fate, and no other number has
  pub fated : (n : ℕ) → is_issued (a.fate n) ≡ (nat_lt 0 n && nat_le n a.issued)
