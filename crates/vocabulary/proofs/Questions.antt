-- What an accepted call tells of its questions.
use Rattle.std.proofs.Common.{◌≡◌, ℕ, zero, suc, ◌<◌, Bool, true, false, cond, refl, arith}
use Rattle.vocabulary.specs.Questions.{if_accepted}

-- the first question was answered yes, and so were the others
pub passed : (b : Bool) (n rest : ℕ) → 0 < n → cond b rest n ≡ 0 → (b ≡ true) × (rest ≡ 0)
passed true n rest some e = (refl, e)
passed false n rest some e = absurd (omega arith)

-- what is true before the call, and of what it leaves where it is accepted, is true after it
pub accepted_or_not : {S : Type 0} (P : S → Type 0) (n : ℕ) (new old : S) → P old → (n ≡ 0 → P new) → P (if_accepted n new old)
accepted_or_not P zero new old was is = is refl
accepted_or_not P (suc n) new old was is = was
