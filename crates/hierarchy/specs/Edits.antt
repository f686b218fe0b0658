-- What the edits of a hierarchy answer, by number, and the pairs that they leave.
use Rattle.std.specs.Prelude.{ℕ, Bool, not, ◌&&◌, ◌||◌, [], ◌∷◌, Ok, Err, Result, ◌==◌, nat_lt}
use Rattle.vocabulary.specs.Questions.{asks, first_no}
use Rattle.bits.specs.Tables.{put}
use Rattle.hierarchy.specs.Inheritance.{Pairs}
use Rattle.hierarchy.specs.Reach.{above_or_equal}
use Rattle.hierarchy.specs.declared.fault.HierarchyFault.{HierarchyFault}
use Rattle.hierarchy.specs.declared.fault.HierarchyFault.TheVariants.{OutOfRange, AlreadyThere, NotThere, Circle}

-- the number of each refusal
abbrev pub fault_number : HierarchyFault → ℕ
fault_number OutOfRange = 1
fault_number AlreadyThere = 9
fault_number NotThere = 10
fault_number Circle = 11

-- the number of an answer: 0 where it was accepted
abbrev pub edit_number : {H : Type 0} → Result H HierarchyFault → ℕ
edit_number (Ok h) = 0
edit_number (Err f) = fault_number f

-- is the senior a, with the junior d, in range?
abbrev pub in_range : ℕ → ℕ → Bool
in_range a d = nat_lt a 64 && nat_lt d 64

abbrev pub add_answer : Pairs → ℕ → ℕ → ℕ
add_answer pairs a d =
    first_no
    (asks 1 (in_range a d)
    ∷ asks 9 (not (pairs a d))
    ∷ asks 11 (not (above_or_equal pairs d a))
    ∷ [])

abbrev pub remove_answer : Pairs → ℕ → ℕ → ℕ
remove_answer pairs a d =
    first_no
    (asks 1 (in_range a d)
    ∷ asks 10 (pairs a d)
    ∷ [])

-- the pairs with (a, d) put to yes or no
abbrev pub put_pair : ℕ → ℕ → Bool → Pairs → Pairs
put_pair a d x pairs = put a (put d x (pairs a)) pairs

-- the pairs that do not name the role r
unfoldable pub without_role : ℕ → Pairs → Pairs
without_role r pairs x y = pairs x y && not (x == r || y == r)
