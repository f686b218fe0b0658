-- A role is taken out of every row.
use Rattle.std.proofs.Common.{◌≡◌, ℕ, ◌≤◌, Bool, true, false, cond, eqb, sym, refl, inl, inr, arith}
use mathlib.Core.Path.{fun_ext}
use Rattle.std.proofs.lemmas.Bool.{cases_Bool, cases_eq, eq-eqb, ne_eqb, and_right}
use Rattle.bits.specs.Sets.{none}
use Rattle.bits.specs.Tables.{put}
use Rattle.hierarchy.specs.Inheritance.{Pairs, Bounded}
use Rattle.hierarchy.specs.Edits.{without_role}
use Rattle.hierarchy.proofs.Cutting.{cond_not}

pub without_absent : (r : ℕ) (pairs : Pairs) → Bounded pairs → 64 ≤ r → pairs ≡ without_role r pairs
unfolding without_role
without_absent r pairs bounded high =
    fun_ext (λ x. fun_ext (λ y. elim (cases_Bool (pairs x y)) [
      | inl e ↦
          let b = bounded x y e in
          let senior = ne_eqb x r (omega arith) in
          let junior = ne_eqb y r (omega arith) in
          simp (e, senior, junior)
      | inr e ↦ simp e
    ]))

outside : (pairs : Pairs) → Bounded pairs → (x y : ℕ) → 64 ≤ x → pairs x y ≡ false
outside pairs bounded x y past = elim (cases_Bool (pairs x y)) [ inl e ↦ let b = bounded x y e in absurd (omega arith) | inr e ↦ e ]

-- past the last row there is nothing to take out
pub rows_past : (r : ℕ) (pairs : Pairs) → Bounded pairs → (x : ℕ) → 64 ≤ x → put r false (pairs x) ≡ pairs x
rows_past r pairs bounded x past =
    fun_ext (λ y. let nothing = outside pairs bounded x y past in simp nothing (and_right_false (eqb y r)))
  where
    and_right_false : (b : Bool) → cond b false false ≡ false
    and_right_false true = refl
    and_right_false false = refl

-- out of every row, with its own row empty
pub out_of_all : (r : ℕ) (pairs : Pairs) → put r none (λ x. put r false (pairs x)) ≡ without_role r pairs
unfolding without_role
out_of_all r pairs =
    fun_ext (λ x. fun_ext (λ y. elim (cases_eq x r) [
      | inl here ↦ let own = eq-eqb x r here in simp own (sym (and_right (pairs x y) false refl))
      | inr other ↦ let row = ne_eqb x r other in simp row (cond_not (eqb y r) (pairs x y))
    ]))
