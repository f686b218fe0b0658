-- Words of 16 bits, put together to one number.
use Rattle.std.proofs.Common.{◌≡◌, ℕ, zero, suc, ◌+◌, ◌-◌, ◌*◌, ◌/◌, ◌%◌, ◌^◌, ◌<◌, ◌≤◌, eqb, List, [], ◌∷◌, length, get_or, sym, ap, ◌∙◌, ⊎_elim, mul_assoc, arith}
use mathlib.Core.Path.{fun_ext}
use native.Mathlib.Nat.{pow-succ'}
use Rattle.std.proofs.lemmas.List.{get_or_past}
use Rattle.std.proofs.lemmas.Bool.{cases_lt}
use Rattle.bits.specs.Sets.{has, joined, spread}
use Rattle.bits.proofs.Bits.{has_zero, has_half, has_first}

-- below k the bits are those of the low number, and from k on those of the high one
has_low : (k w r n : ℕ) → w < 2 ^ k → n < k → has (w + 2 ^ k * r) n ≡ has w n
has_low zero w r n small lt = absurd (omega arith)
has_low (suc k) w r zero small lt =
    let double : 2 ^ suc k * r ≡ 2 * (2 ^ k * r) = ap (λ p. p * r) (pow-succ' 2 k) ∙ mul_assoc 2 (2 ^ k) r in
    let parity : (w + 2 ^ suc k * r) % 2 ≡ w % 2 = omega (arith, double) in
    has_first (w + 2 ^ suc k * r) ∙ ap (λ x. eqb x 1) parity ∙ sym (has_first w)
has_low (suc k) w r (suc n) small lt =
    let double : 2 ^ suc k * r ≡ 2 * (2 ^ k * r) = ap (λ p. p * r) (pow-succ' 2 k) ∙ mul_assoc 2 (2 ^ k) r in
    let half : (w + 2 ^ suc k * r) / 2 ≡ w / 2 + 2 ^ k * r = omega (arith, double) in
    sym (has_half (w + 2 ^ suc k * r) n)
    ∙ ap (λ x. has x n) half
    ∙ has_low k (w / 2) r n (omega (arith, pow-succ' 2 k)) (omega arith)
    ∙ has_half w n

has_from : (k w r n : ℕ) → w < 2 ^ k → has (w + 2 ^ k * r) (k + n) ≡ has r n
has_from zero w r n small =
    let none : w + 2 ^ 0 * r ≡ r = omega arith in
    (λ i. has (none i) (zero_n i))
  where
    zero_n : 0 + n ≡ n
    zero_n = omega arith
has_from (suc k) w r n small =
    let double : 2 ^ suc k * r ≡ 2 * (2 ^ k * r) = ap (λ p. p * r) (pow-succ' 2 k) ∙ mul_assoc 2 (2 ^ k) r in
    let half : (w + 2 ^ suc k * r) / 2 ≡ w / 2 + 2 ^ k * r = omega (arith, double) in
    let one_less : suc k + n ≡ suc (k + n) = omega arith in
    ap (has (w + 2 ^ suc k * r)) one_less
    ∙ sym (has_half (w + 2 ^ suc k * r) (k + n))
    ∙ ap (λ x. has x (k + n)) half
    ∙ has_from k (w / 2) r n (omega (arith, pow-succ' 2 k))

pub joined_spread : (ws : List ℕ) → ((i : ℕ) → get_or ws i 0 < 65536) → has (joined ws) ≡ spread ws
joined_spread ws small = fun_ext (at ws small)
  where
    at : (ws : List ℕ) → ((i : ℕ) → get_or ws i 0 < 65536) → (n : ℕ) → has (joined ws) n ≡ spread ws n
    at [] small n = has_zero n ∙ sym (has_zero (n % 16))
    at (w ∷ ws) small n =
        ⊎_elim
        (λ (below : n < 16).
        let first : n / 16 ≡ 0 = omega arith in
        let same : n % 16 ≡ n = omega arith in
        has_low 16 w (joined ws) n (small 0) below ∙ sym (λ i. has (get_or (w ∷ ws) (first i) 0) (same i)))
        (λ (past : 16 ≤ n).
        let m = n - 16 in
        let back : n ≡ 16 + m = omega arith in
        let next : n / 16 ≡ suc (m / 16) = omega arith in
        let same : n % 16 ≡ m % 16 = omega arith in
        ap (has (joined (w ∷ ws))) back
        ∙ has_from 16 w (joined ws) m (small 0)
        ∙ at ws (λ i. small (suc i)) m
        ∙ sym (λ i. has (get_or (w ∷ ws) (next i) 0) (same i)))
        (cases_lt n 16)

pub joined_four : (ws : List ℕ) → length ws ≡ 4 → joined ws ≡ get_or ws 0 0 + 65536 * get_or ws 1 0 + 4294967296 * (get_or ws 2 0 + 65536 * get_or ws 3 0)
joined_four [] long = absurd (omega arith)
joined_four (a ∷ []) long = absurd (omega arith)
joined_four (a ∷ b ∷ []) long = absurd (omega arith)
joined_four (a ∷ b ∷ c ∷ []) long = absurd (omega arith)
joined_four (a ∷ b ∷ c ∷ d ∷ []) long = omega arith
joined_four (a ∷ b ∷ c ∷ d ∷ e ∷ ws) long = absurd (omega arith)

-- four words are all below 2 ^ 16 where each of them is
pub four_small : (ws : List ℕ) → length ws ≤ 4 → get_or ws 0 0 < 65536 → get_or ws 1 0 < 65536 → get_or ws 2 0 < 65536 → get_or ws 3 0 < 65536 → (i : ℕ) → get_or ws i 0 < 65536
four_small ws long a b c d zero = a
four_small ws long a b c d (suc zero) = b
four_small ws long a b c d (suc (suc zero)) = c
four_small ws long a b c d (suc (suc (suc zero))) = d
four_small ws long a b c d (suc (suc (suc (suc i)))) = rw (get_or_past ws (suc (suc (suc (suc i)))) 0 (omega arith)) (omega arith)
