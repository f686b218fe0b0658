-- A kind is known exactly where it has a family.
use Rattle.std.proofs.Common.{◌≡◌, ℕ, is_some, arith}
use Rattle.calls.specs.Layout.{known, family_of_kind}

pub known_family : (k : ℕ) → known k ≡ is_some (family_of_kind k)
known_family k = grind arith
