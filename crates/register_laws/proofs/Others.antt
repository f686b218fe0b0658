-- One owner's entry, put to whatever value, is nothing to the other owners.
use Rattle.std.proofs.Common.{◌≡◌, ℕ, ◌/◌, ◌%◌, Bool, true, false, cond, not, eqb, leb, refl, ap}
use mathlib.Core.Path.{fun_ext}
use Rattle.std.proofs.lemmas.Bool.{cond-false, and_left, ne_eqb}
use Rattle.bits.specs.Tables.{count_below}
use Rattle.register.specs.Meaning.{Consents, Register, held, counted, owned, in_range, put_one}
use Rattle.register.specs.Answers.{after_give, after_withdraw}
use Rattle.register_laws.specs.Owners.{AlikeToOthers}

module _ (o : ℕ) (m n : Register) (limits : n.limit ≡ m.limit) (elsewhere : (a q t : ℕ) → (a ≡ o → ⊥) → n.entries a q t ≡ m.entries a q t) where
  same_count : (a : ℕ) → (a ≡ o → ⊥) → owned n.entries a ≡ owned m.entries a
  unfolding owned
  same_count a other = ap (λ p. count_below p 256) (fun_ext (λ k. elsewhere a (k / 16) (k % 16) other))

  alike : AlikeToOthers o m n
  alike =
      record {
        limit = limits;
        holdings = elsewhere;
        counts = same_count;
        gives = λ a q t other. λ i. cond (not (in_range a q t)) 1 (cond (elsewhere a q t other i) 9 (cond (leb (limits i) (same_count a other i)) 13 0));
        withdrawals = λ a q t other. ap (λ x. cond (not (in_range a q t)) 1 (cond x 0 10)) (elsewhere a q t other);
      }

put_elsewhere : (o q t : ℕ) (x : Bool) (f : Consents) (a b c : ℕ) → (a ≡ o → ⊥) → put_one o q t x f a b c ≡ f a b c
unfolding put_one
put_elsewhere o q t x f a b c other = cond-false _ _ _ (and_left (eqb a o) _ (ne_eqb a o other))

module _ (m : Register) (o q t : ℕ) where
  unchanged : AlikeToOthers o m m
  unchanged = alike o m m refl (λ a b c other. refl)

  changed : (x : Bool) → AlikeToOthers o m (record { limit = m.limit; entries = put_one o q t x m.entries })
  changed x = alike o m _ refl (put_elsewhere o q t x m.entries)

  -- one of two meanings, both alike to the others
  choice : (x : Bool) {n k : Register} → AlikeToOthers o m n → AlikeToOthers o m k → AlikeToOthers o m (cond x n k)
  choice true a b = a
  choice false a b = b

  pub give_alike : AlikeToOthers o m (after_give m o q t)
  give_alike =
      choice (not (in_range o q t)) unchanged
      (choice (held m o q t) unchanged
      (choice (leb m.limit (owned (counted m) o)) unchanged (changed true)))

  pub withdraw_alike : AlikeToOthers o m (after_withdraw m o q t)
  withdraw_alike = choice (not (in_range o q t)) unchanged (choice (counted m o q t) (changed false) unchanged)
