-- How many numbers below n pass a test.
use Rattle.std.proofs.Common.{◌≡◌, ℕ, zero, suc, ◌+◌, ◌<◌, ◌≤◌, Bool, true, false, ltb, ◌≢◌, sym, refl, ap, ◌∙◌, inl, inr, ⊎_elim, arith}
use Rattle.std.proofs.lemmas.Bool.{cases_eq, lt-ltb}
use Rattle.bits.specs.Tables.{one, count_below}
use Rattle.vocabulary.specs.Tables.{so_far}

one_le : (b : Bool) → one b ≤ 1
one_le true = omega arith
one_le false = omega arith

pub count_le : (p : ℕ → Bool) (n : ℕ) → count_below p n ≤ n
unfolding count_below
count_le p zero = omega arith
count_le p (suc n) = omega (arith, count_le p n, one_le (p n))

-- one that does not pass is not counted
pub count_lt : (p : ℕ → Bool) (n k : ℕ) → k < n → p k ≡ false → count_below p n < n
unfolding count_below
count_lt p zero k lt e = absurd (omega arith)
count_lt p (suc n) k lt e =
    ⊎_elim
    (λ (here : k ≡ n). let none : one (p n) ≡ 0 = ap (λ x. one (p x)) (sym here) ∙ ap one e in omega (arith, count_le p n))
    (λ other. omega (arith, count_lt p n k (omega arith) e, one_le (p n)))
    (cases_eq k n)

-- tests that agree below n count alike
pub count_same : (p r : ℕ → Bool) (n : ℕ) → ((k : ℕ) → k < n → p k ≡ r k) → count_below p n ≡ count_below r n
unfolding count_below
count_same p r zero h = refl
count_same p r (suc n) h = omega (arith, ap one (h n (omega arith)), count_same p r n (λ k lt. h k (omega arith)))

-- where one test passes whenever the other does it counts at least as many
pub count_mono : (p r : ℕ → Bool) (n : ℕ) → ((k : ℕ) → p k ≡ true → r k ≡ true) → count_below p n ≤ count_below r n
unfolding count_below
count_mono p r zero h = omega arith
count_mono p r (suc n) h = omega (arith, one_mono (p n) (r n) (h n), count_mono p r n h)
  where
    one_mono : (x y : Bool) → (x ≡ true → y ≡ true) → one x ≤ one y
    one_mono true y h = omega (arith, ap one (h refl))
    one_mono false y h = omega arith

-- one number more passes
pub count_more : (p r : ℕ → Bool) (n k : ℕ) → k < n → p k ≡ false → r k ≡ true → ((j : ℕ) → j ≢ k → r j ≡ p j) → count_below r n ≡ count_below p n + 1
unfolding count_below
count_more p r zero k lt was is others = absurd (omega arith)
count_more p r (suc n) k lt was is others =
    ⊎_elim
    (λ (here : k ≡ n).
    let old : one (p n) ≡ 0 = ap (λ j. one (p j)) (sym here) ∙ ap one was in
    let new : one (r n) ≡ 1 = ap (λ j. one (r j)) (sym here) ∙ ap one is in
    omega (arith, count_same r p n (λ j below. others j (λ e. omega arith))))
    (λ (ne : k ≡ n → ⊥). omega (arith, count_more p r n k (omega arith) was is others, ap one (others n (λ e. ne (sym e)))))
    (cases_eq k n)

-- what lies past n does not count
pub count_so_far : (p : ℕ → Bool) (n : ℕ) → count_below (so_far p n) n ≡ count_below p n
count_so_far p n = count_same (so_far p n) p n (λ k below. let e : ltb k n ≡ true = lt-ltb k n below in simp e)

-- each number passes the first test as often as the other two together
pub count_sum : (p q r : ℕ → Bool) (n : ℕ) → ((k : ℕ) → k < n → one (p k) ≡ one (q k) + one (r k)) → count_below p n ≡ count_below q n + count_below r n
unfolding count_below
count_sum p q r zero each = omega arith
count_sum p q r (suc n) each = omega (arith, each n (omega arith), count_sum p q r n (λ k lt. each k (omega arith)))

-- the tests differ at m alone, which does not pass the second
pub count_one_more : (p q : ℕ → Bool) (m n : ℕ) → m < n → q m ≡ false → ((k : ℕ) → (k ≡ m → ⊥) → p k ≡ q k) → count_below p n ≡ one (p m) + count_below q n
unfolding count_below
count_one_more p q m zero lt none each = absurd (omega arith)
count_one_more p q m (suc n) lt none each =
    elim (cases_eq n m) [
      | inl last ↦
          let here : one (p n) ≡ one (p m) = ap (λ (k : ℕ). one (p k)) last in
          let there : one (q n) ≡ 0 = ap (λ (k : ℕ). one (q k)) last ∙ ap one none in
          omega (arith, here, there, count_same p q n (λ k below. each k (λ e. omega arith)))
      | inr other ↦ omega (arith, ap one (each n other), count_one_more p q m n (omega arith) none each)
    ]
