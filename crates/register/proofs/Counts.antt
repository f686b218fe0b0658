-- How many entries an owner has.
use Rattle.std.proofs.Common.{◌≡◌, ℕ, ◌+◌, ◌*◌, ◌/◌, ◌%◌, ◌<◌, false, leb, ◌∙◌, arith}
use Rattle.std.proofs.lemmas.Bool.{lt-leb}
use Rattle.vocabulary.proofs.Counts.{count_lt}
use Rattle.register.specs.Meaning.{Consents, owned}

-- an owner who lacks a pair has fewer entries than there are pairs
pub never_full : (f : Consents) (o q t : ℕ) → q < 16 → t < 16 → f o q t ≡ false → leb 256 (owned f o) ≡ false
unfolding owned
never_full f o q t q-in t-in e =
    let purpose : (16 * q + t) / 16 ≡ q = omega arith in
    let kind : (16 * q + t) % 16 ≡ t = omega arith in
    let lacks : f o ((16 * q + t) / 16) ((16 * q + t) % 16) ≡ false = (λ i. f o (purpose i) (kind i)) ∙ e in
    lt-leb 256 _ (count_lt (λ n. f o (n / 16) (n % 16)) 256 (16 * q + t) (omega arith) lacks)
