-- A role that is taken from everybody.
use Rattle.std.proofs.Common.{◌≡◌, ℕ, ◌≤◌, Bool, true, false, cond, eqb, None, Option, List, length, sym, refl, ap, ◌∙◌}
use mathlib.Core.Path.{fun_ext}
use Rattle.std.proofs.lemmas.List.{get_or_past}
use Rattle.bits.specs.Sets.{none}
use Rattle.bits.specs.Tables.{put}
use Rattle.bits.specs.declared.set.BitSet.{BitSet}
use Rattle.bits.specs.declared.set.Role.{Role}
use Rattle.directory.specs.View.{roles_in, assigned_in}

out_of_none : (r : ℕ) → put r false none ≡ none
out_of_none r = fun_ext (λ k. same (eqb k r))
  where
    same : (b : Bool) → cond b false false ≡ false
    same true = refl
    same false = refl

-- past the table nobody has a role
pub nobody_past : (r : ℕ) (users : List (Option (BitSet ℕ Role))) (u : ℕ) → length users ≤ u → put r false (assigned_in users u) ≡ assigned_in users u
nobody_past r users u past =
    let nobody = ap roles_in (get_or_past users u None past) in
    ap (put r false) nobody ∙ out_of_none r ∙ sym nobody
