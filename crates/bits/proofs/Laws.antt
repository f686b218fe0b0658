-- What the operations on bits do to the members, over any width.
use Rattle.std.proofs.Common.{◌≡◌, ℕ, suc, ◌-◌, ◌*◌, ◌/◌, ◌%◌, ◌^◌, ◌<◌, ◌≤◌, Bool, true, false, cond, not, ◌&&◌, ◌||◌, eqb, Decides, sym, refl, ap, ◌∙◌, ⊎_elim, arith, pow_mono}
use mathlib.Core.Path.{fun_ext}
use lib.Arith.{bin_ind}
use lib.Bits.{bit_and, bit_or}
use lib.Pow.{pow-lt}
use Rattle.std.proofs.lemmas.Bool.{cases_lt, cases_eq, cases_Bool, eqb-true, eqb-false, eq-eqb, ne_eqb, and_parts, and_from, not-true, not_from_false, both_ways}
use Rattle.std.proofs.lemmas.Bool.Decides.{nat_tests}
use Rattle.bits.specs.Sets.{has, members, none, either, but, Meet, Within}
use Rattle.bits.specs.declared.set.BitSet.{BitSet}
use Rattle.bits.specs.Tables.{put}
use Rattle.bits.proofs.Bits.{has_or, has_and, has_zero, has_high, has_half, has_first, has_pow, has_not, one_bit, has_some}

or_cond : (x y : Bool) → (x || y) ≡ cond y true x
or_cond true true = refl
or_cond true false = refl
or_cond false true = refl
or_cond false false = refl

and_cond : (x y : Bool) → (x && not y) ≡ cond y false x
and_cond true true = refl
and_cond true false = refl
and_cond false true = refl
and_cond false false = refl

and_nothing : (y : Bool) → false ≡ (false && y)
and_nothing true = refl
and_nothing false = refl

pub zero_none : has 0 ≡ none
zero_none = fun_ext has_zero

-- `a | 1 << t`
pub with_bit : (w a t : ℕ) → t < w → has (bit_or a ((1 * 2 ^ t) % 2 ^ w)) ≡ put t true (has a)
with_bit w a t lt =
    fun_ext (λ n.
    has_or a ((1 * 2 ^ t) % 2 ^ w) n
    ∙ ap (λ x. has a n || has x n) (one_bit w t lt)
    ∙ ap (λ x. has a n || x) (has_pow t n)
    ∙ or_cond (has a n) (eqb n t))

pub or_either : (a b : ℕ) → has (bit_or a b) ≡ either (has a) (has b)
or_either a b = fun_ext (has_or a b)

-- `a & !b`
pub and_not_but : (w a b : ℕ) → a < 2 ^ w → b < 2 ^ w → has (bit_and a (2 ^ w - 1 - b)) ≡ but (has a) (has b)
and_not_but w a b small-a small_b =
    fun_ext (λ n.
    has_and a (2 ^ w - 1 - b) n
    ∙ ⊎_elim
    (λ below. ap (λ x. has a n && x) (has_not w b n below small_b))
    (λ above. let z = has_high w a n small-a above in rw z (sym (and_nothing (has (2 ^ w - 1 - b) n)) ∙ and_nothing (not (has b n))))
    (cases_lt n w))

-- `a & !(1 << t)`
pub without_bit : (w a t : ℕ) → t < w → a < 2 ^ w → has (bit_and a (2 ^ w - 1 - (1 * 2 ^ t) % 2 ^ w)) ≡ put t false (has a)
without_bit w a t lt small =
    ap (λ x. has (bit_and a (2 ^ w - 1 - x))) (one_bit w t lt)
    ∙ and_not_but w a (2 ^ t) small (pow-lt lt)
    ∙ fun_ext (λ n. ap (λ x. has a n && not x) (has_pow t n) ∙ and_cond (has a n) (eqb n t))

-- a number past the width is no member, so to take it out changes nothing
pub without_high : (w a t : ℕ) → a < 2 ^ w → w ≤ t → has a ≡ put t false (has a)
without_high w a t small le =
    fun_ext (λ n. ⊎_elim
    (λ (e : eqb n t ≡ true). let here : n ≡ t = eqb-true n t e in rw e (ap (has a) here ∙ has_high w a t small le))
    (λ (e : eqb n t ≡ false). rw e refl)
    (cases_Bool (eqb n t)))

-- every member lies below the width
pub members_inside : {K : Type 0} (s : BitSet ℕ K) → s.bits < 2 ^ 64 → (n : ℕ) → members s n ≡ true → n < 64
members_inside s small n here = ⊎_elim (λ below. below) (λ above. absurd (both_ways (members s n) (has_high 64 s.bits n small above) here)) (cases_lt n 64)

-- numbers with the same bits are the same
pub same_number : (a b : ℕ) → has a ≡ has b → a ≡ b
same_number a b e =
    bin_ind (λ a. (b : ℕ) → ((n : ℕ) → has a n ≡ has b n) → a ≡ b)
    (λ b same. ⊎_elim
    (λ (z : b ≡ 0). sym z)
    (λ (nz : b ≡ 0 → ⊥). let some = has_some b nz in absurd (both_ways (has b some.0) (sym (same some.0) ∙ has_zero some.0) some.1))
    (cases_eq b 0))
    (λ a rest b same.
    let low : eqb (a % 2) 1 ≡ eqb (b % 2) 1 = sym (has_first a) ∙ same 0 ∙ has_first b in
    let odd : a % 2 ≡ b % 2 = same_parity (a % 2) (b % 2) (omega arith) (omega arith) low in
    let high : a / 2 ≡ b / 2 = rest (b / 2) (λ n. has_half a n ∙ same (suc n) ∙ sym (has_half b n)) in
    omega arith)
    a b (λ n. ap (λ f. f n) e)
  where
    same_parity : (x y : ℕ) → x < 2 → y < 2 → eqb x 1 ≡ eqb y 1 → x ≡ y
    same_parity x y p q e = grind (arith, nat_tests)

-- of a number of w bits the complement at 64 bits keeps what the complement at w bits keeps
pub and_not_wide : (w a b : ℕ) → w ≤ 64 → a < 2 ^ w → b < 2 ^ w → bit_and a (2 ^ 64 - 1 - b) ≡ bit_and a (2 ^ w - 1 - b)
and_not_wide w a b le small-a small_b =
    let wide = pow_mono le in
    same_number _ _ (and_not_but 64 a b (omega arith) (omega arith) ∙ sym (and_not_but w a b small-a small_b))

pub decides_none : (a : ℕ) → Decides (eqb a 0) (has a ≡ none)
decides_none a = ((λ z. ap has (eqb-true a 0 z) ∙ zero_none), (λ e. eq-eqb a 0 (same_number a 0 (e ∙ sym zero_none))))

pub decides_same : (a b : ℕ) → Decides (eqb a b) (has a ≡ has b)
decides_same a b = ((λ e. ap has (eqb-true a b e)), (λ e. eq-eqb a b (same_number a b e)))

-- `a & b != 0`
pub decides_meet : (a b : ℕ) → Decides (not (eqb (bit_and a b) 0)) (Meet (has a) (has b))
decides_meet a b = (
  (λ some.
      let nz = eqb-false (bit_and a b) 0 (not-true _ some) in
      let n = has_some (bit_and a b) nz in
      let both = and_parts (has a n.0) (has b n.0) (sym (has_and a b n.0) ∙ n.1) in
      (n.0, both.0, both.1)),
  (λ m. not_from_false _
      (ne_eqb (bit_and a b) 0
      (λ z. both_ways (has (bit_and a b) m.0) (ap (λ x. has x m.0) z ∙ has_zero m.0) (has_and a b m.0 ∙ and_from _ _ m.1 m.2)))),
)

-- nothing is in the first but the second exactly when the first lies within the second
pub decides_within : (f g : ℕ → Bool) (r : Bool) → Decides r (but f g ≡ none) → Decides r (Within f g)
decides_within f g r d = (
  (λ t n here. inside (f n) (g n) here (ap (λ h. h n) (d.0 t))),
  (λ in_all. d.1 (fun_ext (λ n. outside (f n) (g n) (in_all n)))),
)
  where
    inside : (x y : Bool) → x ≡ true → (x && not y) ≡ false → y ≡ true
    inside x true e none = refl
    inside true false e none = sym none
    inside false false e none = e

    outside : (x y : Bool) → (x ≡ true → y ≡ true) → (x && not y) ≡ false
    outside true true h = refl
    outside true false h = sym (h refl)
    outside false true h = refl
    outside false false h = refl
