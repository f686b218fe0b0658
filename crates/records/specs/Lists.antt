-- Lists of records as sets, by a test of sameness.
use Rattle.std.specs.Prelude.{◌≡◌, Bool, true, not, ◌&&◌, List, [], ◌∷◌, filter}
use Rattle.std.specs.Fn.{FnReturnsAt}
use Rattle.std.specs.List.{list_any}
use denote.Param.Members.{Shared}
use denote.Ref.{Bor}

module _ {T : Type 0} where
  -- some record passes the test
  abbrev pub some : (T → Bool) → List T → Bool
  some = list_any

  -- some record is the same as x
  abbrev pub holds : (T → T → Bool) → List T → T → Bool
  holds equal xs x = some (λ y. equal y x) xs

  -- no two records are the same
  abbrev pub apart : (T → T → Bool) → List T → Bool
  apart equal [] = true
  apart equal (x ∷ xs) = not (holds equal xs x) && apart equal xs

  -- the list without the record that is the same as x
  abbrev pub without : (T → T → Bool) → List T → T → List T
  without equal xs x = filter (λ y. not (equal y x)) xs

  -- the closure f answers of each record what the test keeps says
  abbrev pub Tests : {F : Type 0} → Shared F (Bor T × Unit {0}) Bool → F → (T → Bool) → Type 0
  Tests g f keeps = (x : T) (b : Bool) → FnReturnsAt g f x b → b ≡ keeps x
