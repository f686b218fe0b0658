-- What is true of every list register, and what keeps it so.
use Rattle.std.proofs.Common.{◌≡◌, ℕ, ◌+◌, ◌/◌, ◌%◌, ◌<◌, ◌≤◌, Bool, true, false, cond, ◌&&◌, eqb, leb, ltb, List, [], ◌∷◌, ◌++◌, length, filter, not, sym, refl, ap, ◌∙◌, ⊎_elim, arith}
use mathlib.Core.Path.{fun_ext}
use Rattle.std.specs.Prelude.{Ok, Err, Result, nat_lt}
use Rattle.std.specs.Result.{IsErrAnd}
use Rattle.std.proofs.lemmas.Bool.{cases_Bool, cases_eq, both_ways, and_parts, cond-false, le-leb, lt-leb, lt-ltb, eqb-true, and_left, and_right}
use Rattle.vocabulary.proofs.Counts.{count_mono}
use Rattle.records.specs.Kinds.{same_consent}
use Rattle.records.specs.Lists.{apart, without}
use Rattle.records.specs.Sets.{records, room, fault_number}
use Rattle.records.specs.declared.set.SetFault.{SetFault}
use Rattle.records.specs.declared.set.SetFault.TheVariants.{AlreadyThere, NotThere, NoPlace}
use Rattle.records.specs.declared.kinds.Consent.{Consent}
use Rattle.register.specs.Meaning.{Consents, Register, in_range, same, owned, put_one, no_owner, no_pair}
use Rattle.register.specs.Answers.{answer_number, fault_number as register_number, of_set_fault, after_erase, after_strike}
use Rattle.register.specs.declared.fault.RegisterFault.{RegisterFault}
use Rattle.register.specs.ListMeaning.{consent, of_owner, entries_of, share, list_meaning, Inside, Under}
use Rattle.register.specs.declared.list_register.ListRegister.{ListRegister}
use Rattle.register.proofs.BitWords.{Parts, parts}
use Rattle.register.proofs.Sweeps.{outside}
use Rattle.register.proofs.Lists.{entries_kept, entries_struck, entries_push, owned_put, owned_other, owner_count, roomy}

-- a list without repeats in n places that is a register
pub record Fine (n : ℕ) (xs : List Consent) : Type 0 where
  pub inside : Inside xs
  pub under : Under (share n) xs
  pub enough : 128 ≤ n

pub fine_of : (s : ListRegister) → Fine (room s.set) (records s.set)
fine_of s = record { inside = s.inside; under = s.under; enough = s.enough }

owned_mono : (f g : Consents) (o : ℕ) → ((q t : ℕ) → f o q t ≡ true → g o q t ≡ true) → owned f o ≤ owned g o
unfolding owned
owned_mono f g o more = count_mono _ _ 256 (λ k. more (k / 16) (k % 16))

pub fine_kept : (p : Consent → Bool) {n m : ℕ} {xs ys : List Consent} → Fine n xs → m ≡ n → ys ≡ filter p xs → Fine m ys
fine_kept p {n} {m} {xs} {ys} f as_many is =
    record {
      inside = λ x e. f.inside x (before x.owner x.purpose x.data_type e);
      under = λ o. omega (arith, f.under o, owned_mono (entries_of ys) (entries_of xs) o (before o));
      enough = omega (arith, f.enough);
    }
  where
    of_cond : (s h : Bool) → cond s h false ≡ true → h ≡ true
    of_cond true h e = e
    of_cond false h e = absurd (both_ways false refl e)

    before : (o q t : ℕ) → entries_of ys o q t ≡ true → entries_of xs o q t ≡ true
    before o q t e = of_cond (p (consent o q t)) (entries_of xs o q t) (sym (ap (λ l. entries_of l o q t) is ∙ entries_kept p xs o q t) ∙ e)

-- one entry put in range leaves all in range
put_inside : (g : Consents) (o q t a b c : ℕ) → in_range o q t ≡ true → (g a b c ≡ true → in_range a b c ≡ true) → put_one o q t true g a b c ≡ true → in_range a b c ≡ true
unfolding put_one
put_inside g o q t a b c within_range old e =
    ⊎_elim
    (λ (here : same o q t a b c ≡ true).
    let outer = and_parts (eqb a o) _ here in
    let inner = and_parts (eqb b q) (eqb c t) outer.1 in
    (λ i. in_range (eqb-true a o outer.0 i) (eqb-true b q inner.0 i) (eqb-true c t inner.1 i)) ∙ within_range)
    (λ (other : same o q t a b c ≡ false). old (sym (cond-false (same o q t a b c) true (g a b c) other) ∙ e))
    (cases_Bool (same o q t a b c))

module _ {n : ℕ} {xs : List Consent} (alone : apart same_consent xs ≡ true) (f : Fine n xs) (o q t : ℕ) (within_range : in_range o q t ≡ true) (new : entries_of xs o q t ≡ false) (less : owned (entries_of xs) o < share n) where
  -- an owner under the limit finds a place
  finds_place : length xs < n
  finds_place = omega (arith, roomy xs (share n) o alone f.inside f.under (parts o q t within_range).owner less)

  fine_pushed : {m : ℕ} {ys : List Consent} → m ≡ n → ys ≡ xs ++ consent o q t ∷ [] → Fine m ys
  fine_pushed {m} {ys} as_many is =
      record {
        inside = λ x e. put_inside (entries_of xs) o q t x.owner x.purpose x.data_type within_range (f.inside x) (sym (ap (λ g. g x.owner x.purpose x.data_type) entries) ∙ e);
        under = λ a. ⊎_elim
            (λ (here : a ≡ o).
            let more : owned (entries_of ys) a ≡ owned (entries_of xs) o + 1 =
            (λ i. owned (entries i) (here i)) ∙ owned_put (entries_of xs) o q t in_parts.purpose in_parts.kind new
            in
            omega arith)
            (λ (ne : a ≡ o → ⊥).
            let same-many : owned (entries_of ys) a ≡ owned (entries_of xs) a =
            ap (λ g. owned g a) entries ∙ owned_other (entries_of xs) o q t in_parts.purpose in_parts.kind new a ne
            in
            omega (arith, f.under a))
            (cases_eq a o);
        enough = omega (arith, f.enough);
      }
    where
      in_parts : Parts o q t
      in_parts = parts o q t within_range

      entries : entries_of ys ≡ put_one o q t true (entries_of xs)
      entries = ap entries_of is ∙ entries_push xs o q t

-- what a register asks before it gives a consent that is in range and new
module _ (s : ListRegister) (o q t count limit : ℕ) (counted : count ≡ length (filter (of_owner o) (records s.set))) (limited : limit ≡ share (room s.set)) where
  owns : count ≡ owned (entries_of (records s.set)) o
  owns = counted ∙ owner_count (records s.set) s.set.alone s.inside o

  pub is_full : limit ≤ count → leb (share (room s.set)) (owned (entries_of (records s.set)) o) ≡ true
  is_full most = le-leb _ _ (omega (arith, owns))

  pub is_not_full : count < limit → leb (share (room s.set)) (owned (entries_of (records s.set)) o) ≡ false
  is_not_full under = lt-leb _ _ (omega (arith, owns))

  module _ (under : count < limit) (inside : in_range o q t ≡ true) (new : entries_of (records s.set) o q t ≡ false) where
    less : owned (entries_of (records s.set)) o < share (room s.set)
    less = omega (arith, owns)

    pub has_place : nat_lt (length (records s.set)) (room s.set) ≡ true
    has_place = lt-ltb _ _ (finds_place s.set.alone (fine_of s) o q t inside new less)

    pub fine_given : {m : ℕ} {ys : List Consent} → m ≡ room s.set → ys ≡ records s.set ++ consent o q t ∷ [] → Fine m ys
    fine_given = fine_pushed s.set.alone (fine_of s) o q t inside new less

pub same_list : {l m : ℕ} {f g : Consents} → l ≡ m → f ≡ g → ◌≡◌ {A = Register} (record { limit = share l; entries = f }) (record { limit = share m; entries = g })
same_list e is = λ i. record { limit = share (e i); entries = is i }

-- what is taken out of an owner or a pair out of range is nothing
none_out : (s h : Bool) → (s ≡ true → h ≡ false) → cond s false h ≡ h
none_out true h e = sym (e refl)
none_out false h e = refl

module _ {n : ℕ} {xs : List Consent} (f : Fine n xs) where
  taken_out : {m : ℕ} (ys : List Consent) (b : Bool) (g : Consents) → m ≡ n → entries_of ys ≡ g → (b ≡ false → g ≡ entries_of xs) → list_meaning m ys ≡ cond b (record { limit = share n; entries = g }) (list_meaning n xs)
  taken_out ys true g as_many is none = same_list as_many is
  taken_out ys false g as_many is none = same_list as_many (is ∙ none refl)

  none_held : (a b c : ℕ) → in_range a b c ≡ false → entries_of xs a b c ≡ false
  none_held = outside (entries_of xs) (λ a b c. f.inside (consent a b c))

  pub erased : {m : ℕ} {ys : List Consent} (o : ℕ) → m ≡ n → ys ≡ filter (λ y. not (eqb y.owner o)) xs → list_meaning m ys ≡ after_erase (list_meaning n xs) o
  unfolding no_owner
  erased o as_many is =
      taken_out _ (ltb o 128) (no_owner o (entries_of xs)) as_many
      (ap entries_of is ∙ fun_ext (λ a. fun_ext (λ b. fun_ext (λ c. entries_struck (λ y. eqb y.owner o) xs a b c))))
      (λ out. fun_ext (λ a. fun_ext (λ b. fun_ext (λ c. none_out (eqb a o) _
      (λ here. none_held a b c (and_left (ltb a 128) _ (ap (λ k. ltb k 128) (eqb-true a o here) ∙ out)))))))

  pub struck : {m : ℕ} {ys : List Consent} (q t : ℕ) → m ≡ n → ys ≡ filter (λ y. not (eqb y.purpose q && eqb y.data_type t)) xs → list_meaning m ys ≡ after_strike (list_meaning n xs) q t
  unfolding no_pair
  struck q t as_many is =
      taken_out _ (ltb q 16 && ltb t 16) (no_pair q t (entries_of xs)) as_many
      (ap entries_of is ∙ fun_ext (λ a. fun_ext (λ b. fun_ext (λ c. entries_struck (λ y. eqb y.purpose q && eqb y.data_type t) xs a b c))))
      (λ out. fun_ext (λ a. fun_ext (λ b. fun_ext (λ c. none_out (eqb b q && eqb c t) _
      (λ here.
      let pair = and_parts (eqb b q) (eqb c t) here in
      none_held a b c (and_right (ltb a 128) _ ((λ i. ltb (eqb-true b q pair.0 i) 16 && ltb (eqb-true c t pair.1 i) 16) ∙ out)))))))

-- what the register says where its set refused
pub said : (r : Result (Unit {0}) RegisterFault) (f : SetFault) → IsErrAnd r (λ e. e ≡ of_set_fault f) → answer_number r ≡ register_number (of_set_fault f)
said (Ok u) f is = absurd is
said (Err e) f is = ap register_number is

-- an answer of a set that was refused has another number than 0
pub refused : (f : SetFault) → fault_number f ≡ 0 → ⊥
refused AlreadyThere e = omega arith
refused NotThere e = omega arith
refused NoPlace e = omega arith

-- what a removal answered
pub removed : (b : Bool) → ◌≡◌ {A = ℕ} 0 (cond b 0 10) → b ≡ true
removed true e = refl
removed false e = absurd (omega arith)

pub not_removed : (f : SetFault) (b : Bool) → fault_number f ≡ cond b 0 10 → (b ≡ false) × (f ≡ NotThere)
not_removed f true e = absurd (refused f e)
not_removed AlreadyThere false e = absurd (omega arith)
not_removed NotThere false e = (refl, refl)
not_removed NoPlace false e = absurd (omega arith)

pub entries_without : (xs : List Consent) (o q t : ℕ) → entries_of (without same_consent xs (consent o q t)) ≡ put_one o q t false (entries_of xs)
unfolding put_one
entries_without xs o q t = fun_ext (λ a. fun_ext (λ b. fun_ext (λ c. entries_struck (λ y. same_consent y (consent o q t)) xs a b c)))
