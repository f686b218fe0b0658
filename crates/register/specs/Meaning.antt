-- What a consent register means: a limit, and which consents it has an entry for.
use Rattle.std.specs.Prelude.{◌≡◌, ℕ, ◌/◌, ◌%◌, ◌≤◌, Bool, true, false, cond, ◌&&◌, ◌==◌, nat_lt}
use Rattle.bits.specs.Tables.{count_below}

-- for an owner, a purpose and a data type: yes or no
abbrev pub Consents : Type 0
Consents = ℕ → ℕ → ℕ → Bool

pub record Register : Type 0 where
  -- how many entries an owner may have
  pub limit : ℕ
  pub entries : Consents

-- what the holding question answers
abbrev pub held : Register → Consents
held m = m.entries

-- which entries count toward the limit
abbrev pub counted : Register → Consents
counted m = m.entries

-- how many entries of the owner o count: there are 256 pairs of a purpose and a data type
unfoldable pub owned : Consents → ℕ → ℕ
owned f o = count_below (λ n. f o (n / 16) (n % 16)) 256

abbrev pub in_range : ℕ → ℕ → ℕ → Bool
in_range o q t = nat_lt o 128 && (nat_lt q 16 && nat_lt t 16)

abbrev pub same : ℕ → ℕ → ℕ → ℕ → ℕ → ℕ → Bool
same o q t a b c = a == o && (b == q && c == t)

-- consents with one put to a value, without an owner's, without a pair's
unfoldable pub put_one : ℕ → ℕ → ℕ → Bool → Consents → Consents
put_one o q t x f a b c = cond (same o q t a b c) x (f a b c)

unfoldable pub no_owner : ℕ → Consents → Consents
no_owner o f a b c = cond (a == o) false (f a b c)

unfoldable pub no_pair : ℕ → ℕ → Consents → Consents
no_pair q t f a b c = cond (b == q && c == t) false (f a b c)

-- what is true of every register
pub record Sound (m : Register) : Type 0 where
  pub inside : (o q t : ℕ) → m.entries o q t ≡ true → in_range o q t ≡ true
  pub least : 1 ≤ m.limit
  pub most : m.limit ≤ 256
  pub under : (o : ℕ) → owned (counted m) o ≤ m.limit
