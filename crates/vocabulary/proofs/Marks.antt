-- Marks that a loop over the numbers sets, one number after another.
use Rattle.std.proofs.Common.{◌≡◌, ℕ, ◌+◌, Bool, true, false, ltb, ap, ◌∙◌, inl, inr, arith}
use mathlib.Core.Path.{fun_ext}
use Rattle.std.proofs.lemmas.Bool.{cases_eq, eq-eqb, ne_eqb, lt-ltb, le-ltb}
use Rattle.std.proofs.lemmas.Bool.Decides.{nat_tests}
use Rattle.bits.specs.Tables.{put}
use Rattle.vocabulary.specs.Tables.{so_far}

pub marks_none : (p : ℕ → Bool) → (λ (_ : ℕ). false) ≡ so_far p 0
marks_none p = fun_ext (λ k. let e : ltb k 0 ≡ false = le-ltb k 0 (omega arith) in simp e)

pub marks_yes : (p : ℕ → Bool) (i : ℕ) → p i ≡ true → put i true (so_far p i) ≡ so_far p (i + 1)
marks_yes p i e =
    fun_ext (λ k. elim (cases_eq k i) [
      | inl q ↦ let a : ltb k (i + 1) ≡ true = lt-ltb k (i + 1) (omega arith) in let b : p k ≡ true = ap p q ∙ e in let z = eq-eqb k i q in simp (a, b, z)
      | inr n ↦ let z = ne_eqb k i n in grind (arith, nat_tests)
    ])

pub marks_no : (p : ℕ → Bool) (i : ℕ) → p i ≡ false → so_far p i ≡ so_far p (i + 1)
marks_no p i e =
    fun_ext (λ k. elim (cases_eq k i) [
      | inl q ↦ let b : p k ≡ false = ap p q ∙ e in grind (arith, nat_tests)
      | inr n ↦ grind (arith, nat_tests)
    ])
