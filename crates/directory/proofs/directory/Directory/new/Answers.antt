use Rattle.std.proofs.Common.{◌≡◌, ℕ, Bool, false, is_some, None, refl}
use Rattle.vocabulary.proofs.Lists.{fresh}
use Rattle.bits.specs.Sets.{none}
use Rattle.hierarchy.specs.Inheritance.{Pairs}
use Rattle.directory.specs.State.{SessionState, closed, DirectoryState}
use Rattle.directory.specs.View.{roles_in, session_state}
use Rattle.directory.proofs.directory.Directory.new.Goals as goal

-- equal tables make equal states
same_state : {u u' r r' : ℕ → Bool} {a a' : ℕ → ℕ → Bool} {p p' : Pairs} {s s' : ℕ → SessionState} → u ≡ u' → r ≡ r' → a ≡ a' → p ≡ p' → s ≡ s'
    → ◌≡◌ {A = DirectoryState} (record { user = u; role = r; assigned = a; inherits = p; session = s }) (record { user = u'; role = r'; assigned = a'; inherits = p'; session = s' })
same_state e f g h k = cc

pub returns : goal.returns
returns c =
    same_state
    (fresh is_some 256 None None false refl refl)
    c.empty.ensures.members
    (fresh roles_in 256 None None none refl refl)
    c.new.ensures
    (fresh session_state 64 None None closed refl refl)
