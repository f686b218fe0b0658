-- One row of the juniors is written.
use Rattle.std.proofs.Common.{◌≡◌, ℕ, ◌<◌, Bool, List, length, set, ap, ◌∙◌}
use Rattle.bits.specs.Sets.{members}
use Rattle.bits.specs.declared.set.Role.{Role}
use Rattle.bits.specs.declared.set.BitSet.{BitSet}
use Rattle.bits.specs.Tables.{put}
use Rattle.vocabulary.proofs.Lists.{put_set}
use Rattle.hierarchy.specs.Inheritance.{pairs_in, no_roles}
use Rattle.hierarchy.specs.Edits.{put_pair}

pub row_written : (juniors : List (BitSet ℕ Role)) (a : ℕ) (row : BitSet ℕ Role) (f : ℕ → Bool) → a < length juniors → members row ≡ f → pairs_in (set juniors a row) ≡ put a f (pairs_in juniors)
row_written juniors a row f inside is = put_set members juniors a row no_roles inside ∙ ap (λ g. put a g (pairs_in juniors)) is

-- the row differs in one junior
pub pair_written : (juniors : List (BitSet ℕ Role)) (a d : ℕ) (x : Bool) (row : BitSet ℕ Role) → a < length juniors → members row ≡ put d x (pairs_in juniors a) → pairs_in (set juniors a row) ≡ put_pair a d x (pairs_in juniors)
pair_written juniors a d x row = row_written juniors a row (put d x (pairs_in juniors a))
