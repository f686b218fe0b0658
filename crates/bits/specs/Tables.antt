-- Tables as functions of a number.
use Rattle.std.specs.Prelude.{ℕ, zero, suc, ◌+◌, Bool, true, false, cond, ◌==◌}

-- the table f with x at the place n
abbrev pub put : {A : Type 0} → ℕ → A → (ℕ → A) → ℕ → A
put n x f k = cond (k == n) x (f k)

-- 1 for yes, 0 for no
abbrev pub one : Bool → ℕ
one true = 1
one false = 0

-- how many of the numbers below n pass the test
unfoldable pub count_below : (ℕ → Bool) → ℕ → ℕ
count_below p zero = 0
count_below p (suc n) = one (p n) + count_below p n
