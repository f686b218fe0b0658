-- The bits of a number, one by one, over any width.
use Rattle.std.proofs.Common.{◌≡◌, ℕ, zero, suc, ◌-◌, ◌*◌, ◌/◌, ◌%◌, ◌^◌, ◌<◌, ◌≤◌, min, max, true, false, not, ◌&&◌, ◌||◌, eqb, sym, refl, ap, ◌∙◌, ⊎_elim, div-one, arith, pow_mono}
use native.Mathlib.Nat.{pow-succ', zero-div, div-eq_of_lt, div-div-eq-div-mul}
use lib.Arith.{bin_ind}
use lib.Bits.{bit_and, bit_or, and_shr, or_shr, and_step, or_step, and_mask}
use lib.Dec.{eqb-zero-suc, eqb-suc-zero, eqb-suc-suc}
use lib.Pow.{pow-lt}
use Rattle.std.proofs.lemmas.Nat.{one_shl}
use Rattle.std.proofs.lemmas.Bool.{cases_eq}
use Rattle.std.proofs.lemmas.Bool.Decides.{nat_tests}
use Rattle.bits.specs.Sets.{has}

bit_at_or : (a b n : ℕ) → bit_or a b / 2 ^ n % 2 ≡ max (a / 2 ^ n % 2) (b / 2 ^ n % 2)
bit_at_or a b n = omega (arith, ap (λ x. x % 2) (or_shr a b n), or_step (a / 2 ^ n) (b / 2 ^ n))

bit_at_and : (a b n : ℕ) → bit_and a b / 2 ^ n % 2 ≡ min (a / 2 ^ n % 2) (b / 2 ^ n % 2)
bit_at_and a b n = omega (arith, ap (λ x. x % 2) (and_shr a b n), and_step (a / 2 ^ n) (b / 2 ^ n))

either_one : (x y : ℕ) → x < 2 → y < 2 → eqb (max x y) 1 ≡ (eqb x 1 || eqb y 1)
either_one x y p q = grind (arith, nat_tests)

both_one : (x y : ℕ) → x < 2 → y < 2 → eqb (min x y) 1 ≡ (eqb x 1 && eqb y 1)
both_one x y p q = grind (arith, nat_tests)

other_one : (x : ℕ) → x < 2 → eqb (1 - x) 1 ≡ not (eqb x 1)
other_one x p = grind (arith, nat_tests)

pub has_or : (a b n : ℕ) → has (bit_or a b) n ≡ (has a n || has b n)
unfolding has
has_or a b n = ap (λ x. eqb x 1) (bit_at_or a b n) ∙ either_one (a / 2 ^ n % 2) (b / 2 ^ n % 2) (omega arith) (omega arith)

pub has_and : (a b n : ℕ) → has (bit_and a b) n ≡ (has a n && has b n)
unfolding has
has_and a b n = ap (λ x. eqb x 1) (bit_at_and a b n) ∙ both_one (a / 2 ^ n % 2) (b / 2 ^ n % 2) (omega arith) (omega arith)

pub has_zero : (n : ℕ) → has 0 n ≡ false
unfolding has
has_zero n = rw (zero-div (2 ^ n)) refl

-- past the width no bit is set
pub has_high : (w a n : ℕ) → a < 2 ^ w → w ≤ n → has a n ≡ false
unfolding has
has_high w a n small le =
    let p = pow_mono le in
    let z : a / 2 ^ n ≡ 0 = div-eq_of_lt (omega arith) in
    ap (λ x. eqb (x % 2) 1) z

half : (a n : ℕ) → a / 2 ^ suc n ≡ a / 2 / 2 ^ n
half a n = ap (λ x. a / x) (pow-succ' 2 n) ∙ sym (div-div-eq-div-mul a 2 (2 ^ n))

bit_zero : (a : ℕ) → a / 2 ^ 0 % 2 ≡ a % 2
bit_zero a = ap (λ x. x % 2) (div-one a)

pub has_half : (a n : ℕ) → has (a / 2) n ≡ has a (suc n)
unfolding has
has_half a n = ap (λ x. eqb (x % 2) 1) (sym (half a n))

pub has_first : (a : ℕ) → has a 0 ≡ eqb (a % 2) 1
unfolding has
has_first a = ap (λ x. eqb x 1) (bit_zero a)

pub has_pow : (k n : ℕ) → has (2 ^ k) n ≡ eqb n k
unfolding has
has_pow zero zero = refl
has_pow (suc k) zero =
    let z : 2 ^ suc k / 2 ^ 0 % 2 ≡ 0 = omega (arith, bit_zero (2 ^ suc k), pow-succ' 2 k) in
    ap (λ x. eqb x 1) z ∙ sym (eqb-zero-suc k)
has_pow zero (suc n) =
    let p = pow-lt {i = 0} {j = suc n} (omega arith) in
    let z : 2 ^ 0 / 2 ^ suc n ≡ 0 = div-eq_of_lt p in
    ap (λ x. eqb (x % 2) 1) z ∙ sym (eqb-suc-zero n)
has_pow (suc k) (suc n) =
    let e : 2 ^ suc k / 2 ≡ 2 ^ k = omega (arith, pow-succ' 2 k) in
    ap (λ x. eqb (x % 2) 1) (half (2 ^ suc k) n ∙ ap (λ x. x / 2 ^ n) e) ∙ has_pow k n ∙ sym (eqb-suc-suc n k)

bit_not : (w a n : ℕ) → n < w → a < 2 ^ w → (2 ^ w - 1 - a) / 2 ^ n % 2 ≡ 1 - a / 2 ^ n % 2
bit_not zero a n lt small = absurd (omega arith)
bit_not (suc w) a zero lt small = omega (arith, bit_zero (2 ^ suc w - 1 - a), bit_zero a, pow-succ' 2 w)
bit_not (suc w) a (suc n) lt small =
    let e : (2 ^ suc w - 1 - a) / 2 ≡ 2 ^ w - 1 - a / 2 = omega (arith, pow-succ' 2 w) in
    ap (λ x. x % 2) (half (2 ^ suc w - 1 - a) n ∙ ap (λ x. x / 2 ^ n) e)
    ∙ bit_not w (a / 2) n (omega arith) (omega (arith, pow-succ' 2 w))
    ∙ ap (λ x. 1 - x % 2) (sym (half a n))

-- `!a` at a width of w bits
pub has_not : (w a n : ℕ) → n < w → a < 2 ^ w → has (2 ^ w - 1 - a) n ≡ not (has a n)
unfolding has
has_not w a n lt small = ap (λ x. eqb x 1) (bit_not w a n lt small) ∙ other_one (a / 2 ^ n % 2) (omega arith)

-- `1 << t` at a width of w bits
pub one_bit : (w t : ℕ) → t < w → (1 * 2 ^ t) % 2 ^ w ≡ 2 ^ t
one_bit w t lt = one_shl t w lt

-- `(a >> t) & 1 == 1`
pub has_test : (a t : ℕ) → eqb (bit_and (a / 2 ^ t) 1) 1 ≡ has a t
unfolding has
has_test a t = ap (λ x. eqb x 1) (and_mask (a / 2 ^ t) 1)

-- a number that is not 0 has a bit
pub has_some : (a : ℕ) → (a ≡ 0 → ⊥) → (n : ℕ) × (has a n ≡ true)
has_some a =
    bin_ind (λ a. (a ≡ 0 → ⊥) → (n : ℕ) × (has a n ≡ true))
    (λ no-bit. absurd (no-bit refl))
    (λ a rest ne. ⊎_elim
    (λ (e : a % 2 ≡ 1). (0, has_first a ∙ ap (λ x. eqb x 1) e))
    (λ odd. let r = rest (λ z. let even : a % 2 ≡ 0 = omega arith in ne (omega arith)) in (suc r.0, sym (has_half a r.0) ∙ r.1))
    (cases_eq (a % 2) 1))
    a
