-- A list read at every number, as a table.
use Rattle.std.proofs.Common.{◌≡◌, ℕ, zero, suc, ◌<◌, List, length, get_or, set, replicate, ap, ◌∙◌, inl, inr}
use mathlib.Core.Path.{fun_ext}
use Rattle.std.proofs.lemmas.List.{get_or-set_same, get_or-set_other}
use Rattle.std.proofs.lemmas.Bool.{cases_eq, eq-eqb, ne_eqb}
use Rattle.bits.specs.Tables.{put}

-- a write at one place
pub put_set : {X Y : Type 0} (f : X → Y) (xs : List X) (i : ℕ) (v d : X) → i < length xs → (λ (n : ℕ). f (get_or (set xs i v) n d)) ≡ put i (f v) (λ n. f (get_or xs n d))
put_set f xs i v d inside =
    fun_ext (λ n. elim (cases_eq n i) [
      | inl here ↦ let e = eq-eqb n i here in simp e (ap (λ (k : ℕ). f (get_or (set xs i v) k d)) here ∙ ap f (get_or-set_same xs i v d inside))
      | inr other ↦ let e = ne_eqb n i other in simp e (ap f (get_or-set_other xs i n v d other))
    ])

-- every place of a fresh array reads alike, and so does what lies past it
fresh_at : {X Y : Type 0} (f : X → Y) (n k : ℕ) (v d : X) (y : Y) → f v ≡ y → f d ≡ y → f (get_or (replicate n v) k d) ≡ y
fresh_at f zero k v d y in-it past = past
fresh_at f (suc n) zero v d y in-it past = in-it
fresh_at f (suc n) (suc k) v d y in-it past = fresh_at f n k v d y in-it past

pub fresh : {X Y : Type 0} (f : X → Y) (n : ℕ) (v d : X) (y : Y) → f v ≡ y → f d ≡ y → ◌≡◌ {A = ℕ → Y} (λ k. f (get_or (replicate n v) k d)) (λ _. y)
fresh f n v d y in-it past = fun_ext (λ k. fresh_at f n k v d y in-it past)
