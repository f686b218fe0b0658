-- How many members there are.
use Rattle.std.proofs.Common.{◌≡◌, ℕ, zero, suc, ◌+◌, ◌/◌, ◌%◌, ◌^◌, ◌<◌, Bool, eqb, sym, refl, ap, ◌∙◌, arith}
use mathlib.Core.Path.{fun_ext}
use native.Mathlib.Nat.{pow-succ'}
use lib.Arith.{lt-one}
use lib.Count.{ones, ones_step}
use Rattle.std.proofs.lemmas.Bool.Decides.{nat_tests}
use Rattle.bits.specs.Sets.{has}
use Rattle.bits.specs.Tables.{one, count_below}
use Rattle.bits.proofs.Bits.{has_half, has_first}

count_first : (p : ℕ → Bool) (n : ℕ) → count_below p (suc n) ≡ one (p 0) + count_below (λ k. p (suc k)) n
unfolding count_below
count_first p zero = refl
count_first p (suc n) = omega (arith, count_first p n)

low_one : (a : ℕ) → one (has a 0) ≡ a % 2
low_one a = ap one (has_first a) ∙ bit (a % 2) (omega arith)
  where
    bit : (x : ℕ) → x < 2 → one (eqb x 1) ≡ x
    bit x lt = grind (arith, nat_tests)

-- as many numbers are members as the number has ones
pub count_ones : (w a : ℕ) → a < 2 ^ w → count_below (has a) w ≡ ones a
unfolding count_below ones
count_ones zero a small = ap ones (sym (lt-one small))
count_ones (suc w) a small =
    count_first (has a) w
    ∙ ap (λ x. x + count_below (λ k. has a (suc k)) w) (low_one a)
    ∙ ap (λ f. a % 2 + count_below f w) (fun_ext (λ k. sym (has_half a k)))
    ∙ ap (λ x. a % 2 + x) (count_ones w (a / 2) (omega (arith, pow-succ' 2 w)))
    ∙ sym (ones_step a)
