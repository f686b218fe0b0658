-- The places of a ledger, and the events that one place takes.
use Rattle.std.specs.Prelude.{ℕ, Bool, true, false, cond, not, ◌&&◌, List, [], ◌∷◌, is_some, Some, None, Option, ◌==◌, nat_le, nat_lt}
use Rattle.bits.specs.Sets.{members}
use Rattle.vocabulary.specs.Questions.{asks}
use Rattle.bits.specs.Tables.{put}
use Rattle.ledger.specs.Answers.{Answer, answered}
use Rattle.ledger.specs.declared.place.Use.{Use}
use Rattle.ledger.specs.declared.place.Place.{Place}
use Rattle.ledger.specs.declared.place.Place.TheVariants.{Empty, Open}
use Rattle.ledger.specs.declared.place.Event.{Event}
use Rattle.ledger.specs.declared.place.Event.TheVariants.{Draw, Close}
use Rattle.ledger.specs.declared.place.Which.{Which}
use Rattle.ledger.specs.declared.place.Which.TheVariants.{Serial, Sessions, All}

abbrev pub is_open : Place → Bool
is_open Empty = false
is_open (Open n u) = true

-- a draw wants an empty place, and whatever closes a permit an open one
abbrev pub place_answer : Place → Event → Answer
place_answer p (Draw n u) = answered (asks 16 (not (is_open p)) ∷ []) [] []
place_answer p (Close c) = answered (asks 18 (is_open p) ∷ []) [] []

abbrev pub place_after : Place → Event → Place
place_after Empty (Draw n u) = Open n u
place_after Empty (Close c) = Empty
place_after (Open m v) (Draw n u) = Open m v
place_after (Open m v) (Close c) = Empty

-- some open permits, told by their serial and their use
abbrev pub Permits : Type 0
Permits = ℕ → Use → Bool

abbrev pub permits_of : Which → Permits
permits_of (Serial wanted) n u = wanted == n
permits_of (Sessions ended) n u = members ended u.session
permits_of All n u = true

-- an open place whose permit is one of these
abbrev pub meets : Permits → Place → Bool
meets these Empty = false
meets these (Open n u) = these n u

abbrev pub cleared : Permits → Place → Place
cleared these p = cond (meets these p) Empty p

-- the first empty place takes the permit
abbrev pub placed : ℕ → Use → List Place → List Place
placed n u [] = []
placed n u (Empty ∷ ps) = Open n u ∷ ps
placed n u (Open m v ∷ ps) = Open m v ∷ placed n u ps

abbrev pub usage_at : Place → Option Use
usage_at Empty = None
usage_at (Open n u) = Some u

-- what the open permit with the serial n was drawn for
abbrev pub usage_in : List Place → ℕ → Option Use
usage_in [] n = None
usage_in (Empty ∷ ps) n = usage_in ps n
usage_in (Open m v ∷ ps) n = put m (Some v) (usage_in ps) n

-- the serials of open permits are from 1 to n
abbrev pub inside : ℕ → List Place → Bool
inside n [] = true
inside n (Empty ∷ ps) = inside n ps
inside n (Open m v ∷ ps) = nat_lt 0 m && (nat_le m n && inside n ps)

-- the serials of open permits differ
abbrev pub distinct : List Place → Bool
distinct [] = true
distinct (Empty ∷ ps) = distinct ps
distinct (Open m v ∷ ps) = not (is_some (usage_in ps m)) && distinct ps
