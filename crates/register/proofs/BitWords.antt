-- What a write to the sets of a bit register does to its entries.
use Rattle.std.proofs.Common.{◌≡◌, ℕ, ◌<◌, Bool, true, false, ◌&&◌, ltb, List, [], length, get_or, set, replicate, sym, refl, ap, ◌∙◌, inl, inr, arith, length-set}
use mathlib.Core.Path.{fun_ext}
use lib.ListN.{length-replicate}
use Rattle.std.proofs.lemmas.List.{get_or-set_same, get_or-set_other, get_or-replicate}
use Rattle.std.proofs.lemmas.Bool.{cases_eq, and_parts, and_right, eq-eqb, ne_eqb, ltb-true}
use Rattle.bits.proofs.Bits.{has_zero}
use Rattle.bits.specs.Sets.{members, none}
use Rattle.bits.specs.Tables.{put}
use Rattle.bits.specs.declared.set.BitSet.{BitSet}
use Rattle.bits.specs.declared.set.DataType.{DataType}
use Rattle.vocabulary.proofs.Lists.{put_set, fresh}
use Rattle.register.specs.Meaning.{Consents, Register, in_range, put_one, no_owner}
use Rattle.register.specs.BitRows.{Wide, entries_in, no_types}

-- the parts of a consent that is in range
pub record Parts (o q t : ℕ) : Type 0 where
  pub owner : o < 128
  pub purpose : q < 16
  pub kind : t < 16

pub parts : (o q t : ℕ) → in_range o q t ≡ true → Parts o q t
parts o q t inside =
    let outer = and_parts (ltb o 128) (ltb q 16 && ltb t 16) inside in
    let inner = and_parts (ltb q 16) (ltb t 16) outer.1 in
    record { owner = ltb-true o 128 outer.0; purpose = ltb-true q 16 inner.0; kind = ltb-true t 16 inner.1 }

pub same_register : {l : ℕ} {f g : Consents} → f ≡ g → ◌≡◌ {A = Register} (record { limit = l; entries = f }) (record { limit = l; entries = g })
same_register {l} e = λ i. record { limit = l; entries = e i }

pub entries_inside : (rows : List (List (BitSet ℕ DataType))) (o q t : ℕ) → entries_in rows o q t ≡ true → in_range o q t ≡ true
entries_inside rows o q t e = (and_parts (in_range o q t) _ e).0

-- the types of each purpose in a row, and in each owner's
abbrev row_types : List (BitSet ℕ DataType) → ℕ → ℕ → Bool
row_types row q = members (get_or row q no_types)

abbrev all_types : List (List (BitSet ℕ DataType)) → Consents
all_types rows o = row_types (get_or rows o [])

-- one type put to x in a table of rows is one entry put to x
one_put : (g : Consents) (o q t : ℕ) (x : Bool) → in_range o q t ≡ true → (a b c : ℕ) → (in_range a b c && put o (put q (put t x (g o q)) (g o)) g a b c) ≡ put_one o q t x (λ l m n. in_range l m n && g l m n) a b c
unfolding put_one
one_put g o q t x inside a b c =
    elim (cases_eq a o) [
      | inr other ↦ let e = ne_eqb a o other in simp e
      | inl owner ↦
          let e = eq-eqb a o owner in
          elim (cases_eq b q) [
            | inr other ↦ let f = ne_eqb b q other in simp (e, f) (ap (λ k. in_range a b c && g k b c) (sym owner))
            | inl purpose ↦
                let f = eq-eqb b q purpose in
                elim (cases_eq c t) [
                  | inr other ↦ let h = ne_eqb c t other in simp (e, f, h) (λ i. in_range a b c && g (sym owner i) (sym purpose i) c)
                  | inl kind ↦
                      let h = eq-eqb c t kind in
                      let z : in_range a b c ≡ true = (λ i. in_range (owner i) (purpose i) (kind i)) ∙ inside in
                      simp (e, f, h) (ap (λ y. y && x) z)
                ]
          ]
    ]

module _ (rows : List (List (BitSet ℕ DataType))) (o : ℕ) (within : o < 128) (long : length rows ≡ 128) where
  -- a row that is put has a set for each purpose too
  pub wide_put : (row : List (BitSet ℕ DataType)) → Wide rows → length row ≡ 16 → Wide (set rows o row)
  wide_put row wide is a a-in =
      let inside : a < length rows = omega (arith, length-set rows o row) in
      elim (cases_eq a o) [
        | inl here ↦ ap (λ k. length (get_or (set rows o row) k [])) here ∙ ap length (get_or-set_same rows o row [] (omega arith)) ∙ is
        | inr other ↦ ap length (get_or-set_other rows o a row [] other) ∙ wide a inside
      ]

  pub wide_set : (q : ℕ) (v : BitSet ℕ DataType) → Wide rows → Wide (set rows o (set (get_or rows o []) q v))
  wide_set q v wide = wide_put _ wide (length-set (get_or rows o []) q v ∙ wide o (omega arith))

  -- a set whose type t is put to x puts one entry to x
  pub entry_put : (q t : ℕ) (x : Bool) (v : BitSet ℕ DataType) → Wide rows → in_range o q t ≡ true → members v ≡ put t x (members (get_or (get_or rows o []) q no_types)) → entries_in (set rows o (set (get_or rows o []) q v)) ≡ put_one o q t x (entries_in rows)
  entry_put q t x v wide inside is =
      let row = get_or rows o [] in
      let here : q < length row = omega (arith, wide o (omega arith), (parts o q t inside).purpose) in
      let one : row_types (set row q v) ≡ put q (put t x (row_types row q)) (row_types row) = put_set members row q v no_types here ∙ ap (λ s. put q s (row_types row)) is in
      let all : all_types (set rows o (set row q v)) ≡ put o (put q (put t x (row_types row q)) (row_types row)) (all_types rows) =
      put_set row_types rows o (set row q v) [] (omega arith) ∙ ap (λ s. put o s (all_types rows)) one
      in
      fun_ext (λ a. fun_ext (λ b. fun_ext (λ c. ap (λ g. in_range a b c && g a b c) all ∙ one_put (all_types rows) o q t x inside a b c)))

  -- an owner whose sets are all empty has no entries
  pub owner_emptied : (n : ℕ) (v : BitSet ℕ DataType) → members v ≡ none → entries_in (set rows o (replicate n v)) ≡ no_owner o (entries_in rows)
  unfolding no_owner
  owner_emptied n v is =
      let all : all_types (set rows o (replicate n v)) ≡ put o (λ _. none) (all_types rows) =
      put_set row_types rows o (replicate n v) [] (omega arith) ∙ ap (λ s. put o s (all_types rows)) (no_types_in n v is)
      in
      fun_ext (λ a. fun_ext (λ b. fun_ext (λ c. ap (λ g. in_range a b c && g a b c) all ∙ elim (cases_eq a o) [
        | inl here ↦ let e = eq-eqb a o here in simp e (and_right (in_range a b c) false refl)
        | inr other ↦ let e = ne_eqb a o other in simp e
      ])))
    where
      no_types_in : (n : ℕ) (v : BitSet ℕ DataType) → members v ≡ none → row_types (replicate n v) ≡ (λ _. none)
      no_types_in n v is = fresh members n v no_types none is (fun_ext has_zero)

pub wide_rows : (m : ℕ) (row : List (BitSet ℕ DataType)) → length row ≡ 16 → Wide (replicate m row)
wide_rows m row is o o-in = ap length (get_or-replicate m o row [] (simp length-replicate at o-in)) ∙ is

-- sets without types have no entries
pub empty_rows : (m n : ℕ) (v : BitSet ℕ DataType) → members v ≡ none → (o q t : ℕ) → entries_in (replicate m (replicate n v)) o q t ≡ false
empty_rows m n v is o q t =
    let row : row_types (replicate n v) ≡ (λ _. none) = fresh members n v no_types none is (fun_ext has_zero) in
    let rows = fresh row_types m (replicate n v) [] (λ _. none) row (λ i k c. has_zero c i) in
    and_right (in_range o q t) _ (ap (λ g. g o q t) rows)
