-- Tests of a number.
use Rattle.std.specs.Prelude.{ℕ, zero, suc, Bool, false, ◌&&◌, ◌||◌, ◌==◌, nat_lt}

-- the number n alone passes
abbrev pub only : ℕ → ℕ → Bool
only n k = k == n

-- the numbers below n that pass
abbrev pub so_far : (ℕ → Bool) → ℕ → ℕ → Bool
so_far p n k = nat_lt k n && p k

-- some number below n passes the test
unfoldable pub some_below : ℕ → (ℕ → Bool) → Bool
some_below zero p = false
some_below (suc n) p = some_below n p || p n
