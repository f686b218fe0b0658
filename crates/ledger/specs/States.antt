-- What a ledger holds, and what each event leaves of it.
use Rattle.std.specs.Prelude.{◌≡◌, ℕ, ◌+◌, true, List, [], ◌∷◌, map, length, replicate, is_some, count_by, nat_lt}
use Rattle.vocabulary.specs.Questions.{Question, asks, first_no, if_accepted}
use Rattle.ledger.specs.Places.{Permits, is_open, meets, cleared, placed, usage_in, inside, distinct, permits_of}
use Rattle.ledger.specs.declared.counts.Counts.{Counts}
use Rattle.ledger.specs.declared.ledger.Ledger.{Ledger}
use Rattle.ledger.specs.declared.place.Closing.{Closing}
use Rattle.ledger.specs.declared.place.Closing.TheVariants.{Entry, HandingBack, Lapse}
use Rattle.ledger.specs.declared.place.Place.{Place}
use Rattle.ledger.specs.declared.place.Place.TheVariants.{Empty}
use Rattle.ledger.specs.declared.place.Use.{Use}
use Rattle.ledger.specs.declared.place.Which.TheVariants.{Serial}

pub record LedgerState : Type 0 where
  pub places : List Place
  pub issued : ℕ
  pub entered : ℕ
  pub handed_back : ℕ
  pub lapsed : ℕ

abbrev pub state_of : Ledger → LedgerState
state_of l = record { places = l.places; issued = l.issued; entered = l.entered; handed_back = l.handed_back; lapsed = l.lapsed }

abbrev pub empty_ledger : LedgerState
empty_ledger = record { places = replicate 8 Empty; issued = 0; entered = 0; handed_back = 0; lapsed = 0 }

-- how many permits are open
abbrev pub opens : LedgerState → ℕ
opens s = count_by is_open s.places

abbrev pub counts_of : LedgerState → Counts
counts_of s = record { issued = s.issued; entered = s.entered; handed_back = s.handed_back; lapsed = s.lapsed; «open» = opens s }

-- a permit more, in the first empty place
abbrev pub drawn : Use → LedgerState → LedgerState
drawn u s = record { places = placed (s.issued + 1) u s.places; issued = s.issued + 1; entered = s.entered; handed_back = s.handed_back; lapsed = s.lapsed }

-- these permits are no longer open, and counted by what became of them
abbrev pub closed : Closing → Permits → LedgerState → LedgerState
closed Entry these s = record { places = map (cleared these) s.places; issued = s.issued; entered = s.entered + count_by (meets these) s.places; handed_back = s.handed_back; lapsed = s.lapsed }
closed HandingBack these s = record { places = map (cleared these) s.places; issued = s.issued; entered = s.entered; handed_back = s.handed_back + count_by (meets these) s.places; lapsed = s.lapsed }
closed Lapse these s = record { places = map (cleared these) s.places; issued = s.issued; entered = s.entered; handed_back = s.handed_back; lapsed = s.lapsed + count_by (meets these) s.places }

-- what a draw is asked, and what it leaves
abbrev pub draw_questions : LedgerState → List Question
draw_questions s = asks 16 (nat_lt (opens s) 8) ∷ asks 17 (nat_lt s.issued 65535) ∷ []

abbrev pub after_draw : Use → LedgerState → LedgerState
after_draw u s = if_accepted (first_no (draw_questions s)) (drawn u s) s

-- what an entry, a handing back or a lapse of the permit n is asked, and what it leaves
abbrev pub close_questions : ℕ → LedgerState → List Question
close_questions n s = asks 18 (is_some (usage_in s.places n)) ∷ []

abbrev pub after_close : Closing → ℕ → LedgerState → LedgerState
after_close c n s = if_accepted (first_no (close_questions n s)) (closed c (permits_of (Serial n)) s) s

-- a permit that is drawn and closed at once: the places are as before
abbrev pub at_once : Closing → LedgerState → LedgerState
at_once Entry s = record { places = s.places; issued = s.issued + 1; entered = s.entered + 1; handed_back = s.handed_back; lapsed = s.lapsed }
at_once HandingBack s = record { places = s.places; issued = s.issued + 1; entered = s.entered; handed_back = s.handed_back + 1; lapsed = s.lapsed }
at_once Lapse s = record { places = s.places; issued = s.issued + 1; entered = s.entered; handed_back = s.handed_back; lapsed = s.lapsed + 1 }

-- what is true of every ledger
pub record Sound (s : LedgerState) : Type 0 where
  pub eight : length s.places ≡ 8
  pub balance : s.issued ≡ s.entered + (s.handed_back + (s.lapsed + opens s))
  pub within : inside s.issued s.places ≡ true
  pub apart : distinct s.places ≡ true
