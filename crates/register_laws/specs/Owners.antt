-- What one owner's calls are to the others.
use Rattle.std.specs.Prelude.{◌≡◌, ℕ, ◌<◌, false, ◌≢◌}
use Rattle.register.specs.Meaning.{Register, held, counted, owned}
use Rattle.register.specs.Answers.{give_answer, withdraw_answer}

-- Between the one meaning and the other, nothing that concerns an owner other than o differs: what the register holds
-- of that owner, how much of it counts, and what that owner's gives and withdrawals are answered.
pub record AlikeToOthers (o : ℕ) (m n : Register) : Type 0 where
  pub limit : n.limit ≡ m.limit
  pub holdings : (a q t : ℕ) → (a ≢ o) → held n a q t ≡ held m a q t
  pub counts : (a : ℕ) → (a ≢ o) → owned (counted n) a ≡ owned (counted m) a
  pub gives : (a q t : ℕ) → (a ≢ o) → give_answer n a q t ≡ give_answer m a q t
  pub withdrawals : (a q t : ℕ) → (a ≢ o) → withdraw_answer n a q t ≡ withdraw_answer m a q t

-- nothing is held, of whomever and for whatever
abbrev pub HoldsNothing : Register → Type 0
HoldsNothing m = (o q t : ℕ) → held m o q t ≡ false

-- nothing is held of the owners below k
abbrev pub HoldsNothingBelow : ℕ → Register → Type 0
HoldsNothingBelow k m = (o q t : ℕ) → o < k → held m o q t ≡ false
