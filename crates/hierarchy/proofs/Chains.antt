-- Chains of immediate inheritances: how they join, and what more or fewer pairs do to them.
use Rattle.std.proofs.Common.{◌≡◌, ℕ, true, refl}
use Rattle.hierarchy.specs.Inheritance.{Pairs}
use Rattle.hierarchy.specs.Chains.{Chain, one, more, Above, same, step, Acyclic}

module _ {pairs : Pairs} where
  pub above_trans : {a m d : ℕ} → Above pairs a m → Above pairs m d → Above pairs a d
  above_trans same v = v
  above_trans (step e w) v = step e (above_trans w v)

  pub chain_above : {a d : ℕ} → Chain pairs a d → Above pairs a d
  chain_above (one e) = step e same
  chain_above (more e c) = step e (chain_above c)

  pub above_chain : {a m d : ℕ} → pairs a m ≡ true → Above pairs m d → Chain pairs a d
  above_chain e same = one e
  above_chain e (step f w) = more e (above_chain f w)

  pub above_antisym : {a d : ℕ} → Acyclic pairs → Above pairs a d → Above pairs d a → a ≡ d
  above_antisym ac same v = refl
  above_antisym ac (step {a = a} e w) v = absurd (ac a (above_chain e (above_trans w v)))
