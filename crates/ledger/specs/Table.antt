-- The ledgers of all owners, as a table over the owner's number.
use Rattle.std.specs.Prelude.{ℕ, ◌+◌, List, [], ◌∷◌, map, replicate, Some, None, Option, nat_lt, slice_index_or}
use Rattle.bits.specs.declared.set.BitSet.{BitSet}
use Rattle.bits.specs.declared.set.Session.{Session}
use Rattle.vocabulary.specs.Questions.{Question, asks, first_no, if_accepted}
use Rattle.bits.specs.Tables.{put}
use Rattle.ledger.specs.Answers.{Answer, answered}
use Rattle.ledger.specs.Places.{usage_in, permits_of}
use Rattle.ledger.specs.States.{LedgerState, state_of, empty_ledger, opens, drawn, closed, draw_questions, close_questions}
use Rattle.ledger.specs.declared.ledger.Ledger.{Ledger}
use Rattle.ledger.specs.declared.ledgers.Ledgers.{Ledgers}
use Rattle.ledger.specs.declared.place.Closing.{Closing}
use Rattle.ledger.specs.declared.place.Closing.TheVariants.{Lapse}
use Rattle.ledger.specs.declared.place.Use.{Use}
use Rattle.ledger.specs.declared.place.Which.TheVariants.{Serial, Sessions, All}

abbrev pub Table : Type 0
Table = ℕ → LedgerState

abbrev pub table_of : List Ledger → Table
table_of ls o = slice_index_or (map state_of ls) o empty_ledger

abbrev pub ledgers_of : Ledgers → Table
ledgers_of t = table_of t.all

-- nothing was ever drawn
abbrev pub bare_ledgers : Table
bare_ledgers o = empty_ledger

-- the owner's number is in range
abbrev pub known : ℕ → Question
known o = asks 1 (nat_lt o 128)

-- a draw for the owner o, with the values of its answer
abbrev pub draw_asked : ℕ → Table → List Question
draw_asked o f = known o ∷ draw_questions (f o)

abbrev pub draw_answer : ℕ → Table → Answer
draw_answer o f = answered (draw_asked o f) (((f o).issued + 1) ∷ []) []

abbrev pub draw_permit : ℕ → Table → Answer
draw_permit o f = answered (draw_asked o f) (o ∷ ((f o).issued + 1) ∷ []) []

abbrev pub draw_left : ℕ → Use → Table → Table
draw_left o u f = if_accepted (first_no (draw_asked o f)) (put o (drawn u (f o)) f) f

-- an entry, a handing back or a lapse of the permit n of the owner o
abbrev pub close_asked : ℕ → ℕ → Table → List Question
close_asked o n f = known o ∷ close_questions n (f o)

abbrev pub close_answer : ℕ → ℕ → Table → Answer
close_answer o n f = answered (close_asked o n f) [] []

abbrev pub close_left : Closing → ℕ → ℕ → Table → Table
close_left c o n f = if_accepted (first_no (close_asked o n f)) (put o (closed c (permits_of (Serial n)) (f o)) f) f

-- what the open permit n of the owner o was drawn for
abbrev pub use_values : Option Use → List ℕ
use_values None = []
use_values (Some u) = u.session ∷ u.operation ∷ u.object ∷ u.purpose ∷ []

abbrev pub use_answer : ℕ → ℕ → Table → Answer
use_answer o n f = answered (close_asked o n f) (use_values (usage_in (f o).places n)) []

-- all open permits of the owner o lapse
abbrev pub owner_answer : ℕ → Answer
owner_answer o = answered (known o ∷ []) [] []

abbrev pub owner_left : ℕ → Table → Table
owner_left o f = if_accepted (first_no (known o ∷ [])) (put o (closed Lapse (permits_of All) (f o)) f) f

-- all open permits of these sessions lapse, in every ledger
abbrev pub sessions_left : BitSet ℕ Session → Table → Table
sessions_left ended f o = closed Lapse (permits_of (Sessions ended)) (f o)

-- the ledger question: the four counts and the number of open permits
abbrev pub five_counts : LedgerState → List ℕ
five_counts s = s.issued ∷ s.entered ∷ s.handed_back ∷ s.lapsed ∷ opens s ∷ []

abbrev pub ledger_answer : ℕ → Table → Answer
ledger_answer o f = answered (known o ∷ []) (five_counts (f o)) (replicate 5 0)
