-- What the events are answered and leave.
use Rattle.std.specs.Prelude.{ℕ, List, [], ◌∷◌, fold}
use Rattle.vocabulary.specs.Questions.{first_no, if_accepted}
use Rattle.bits.specs.Tables.{put}
use Rattle.ledger.specs.States.{at_once}
use Rattle.ledger.specs.Table.{Table, known, draw_asked, draw_left, close_asked, close_left, owner_left, sessions_left}
use Rattle.ledger.specs.declared.place.Closing.{Closing}
use Rattle.ledger_laws.specs.declared.event.LedgerEvent.{LedgerEvent}
use Rattle.ledger_laws.specs.declared.event.LedgerEvent.TheVariants.{Of, SessionsEnd}
use Rattle.ledger_laws.specs.declared.event.OwnerCall.{OwnerCall}
use Rattle.ledger_laws.specs.declared.event.OwnerCall.TheVariants.{Draw, Close, LapseAll}

abbrev pub call_answer : ℕ → OwnerCall → Table → ℕ
call_answer o (Draw u) f = first_no (draw_asked o f)
call_answer o (Close n c) f = first_no (close_asked o n f)
call_answer o LapseAll f = first_no (known o ∷ [])

abbrev pub call_left : ℕ → OwnerCall → Table → Table
call_left o (Draw u) f = draw_left o u f
call_left o (Close n c) f = close_left c o n f
call_left o LapseAll f = owner_left o f

abbrev pub event_answer : LedgerEvent → Table → ℕ
event_answer (Of o call) f = call_answer o call f
event_answer (SessionsEnd ended) f = 0

abbrev pub event_left : LedgerEvent → Table → Table
event_left (Of o call) f = call_left o call f
event_left (SessionsEnd ended) f = sessions_left ended f

-- events, or calls for one owner, one after another
abbrev pub all_left : List LedgerEvent → Table → Table
all_left events f = fold (λ g e. event_left e g) f events

abbrev pub calls_left : ℕ → List OwnerCall → Table → Table
calls_left o calls f = fold (λ g call. call_left o call g) f calls

-- a permit that is drawn and closed at once
abbrev pub once_left : Closing → ℕ → Table → Table
once_left c o f = if_accepted (first_no (draw_asked o f)) (put o (at_once c (f o)) f) f
