-- What a list of consents holds, how many of an owner, and how many at all.
use Rattle.std.proofs.Common.{◌≡◌, ℕ, zero, suc, ◌+◌, ◌*◌, ◌/◌, ◌%◌, ◌<◌, ◌≤◌, Bool, true, false, cond, not, ◌&&◌, ◌||◌, eqb, ◌≢◌, List, [], ◌∷◌, ◌++◌, length, filter, sym, refl, ap, ◌∙◌, subst, ⊎_elim, mul-suc, arith}
use mathlib.Core.Path.{fun_ext}
use Rattle.std.proofs.lemmas.Bool.{cases_Bool, cases_eq, and_parts, and_from, and_left, or_left, or_right, eqb-true, eq-eqb, ne_eqb, cond-true, cond-false, not-true}
use Rattle.std.proofs.lemmas.Bool.Decides.{nat_tests}
use Rattle.bits.specs.Tables.{count_below}
use Rattle.vocabulary.proofs.Counts.{count_same, count_more}
use Rattle.records.specs.Kinds.{same_consent}
use Rattle.records.specs.Lists.{holds, apart}
use Rattle.records.specs.declared.kinds.Consent.{Consent}
use Rattle.records.proofs.Sets.{some_push}
use Rattle.register.specs.Meaning.{Consents, same, owned, put_one}
use Rattle.register.specs.ListMeaning.{consent, of_owner, entries_of, Inside, Under}
use Rattle.register.proofs.BitWords.{Parts, parts}

-- an owner has one entry more where one of the owner's is put, and every other owner has as many as before
module _ (f : Consents) (o q t : ℕ) (q-in : q < 16) (t-in : t < 16) (new : f o q t ≡ false) where
  pub owned_put : owned (put_one o q t true f) o ≡ owned f o + 1
  unfolding owned put_one
  owned_put =
      let purpose : (16 * q + t) / 16 ≡ q = omega arith in
      let kind : (16 * q + t) % 16 ≡ t = omega arith in
      count_more (λ n. f o (n / 16) (n % 16)) (λ n. put_one o q t true f o (n / 16) (n % 16)) 256 (16 * q + t) (omega arith)
      ((λ i. f o (purpose i) (kind i)) ∙ new)
      (cond-true _ _ _ (and_from _ _ (eq-eqb o o refl) (and_from _ _ (eq-eqb _ q purpose) (eq-eqb _ t kind))))
      (λ j ne. cond-false _ _ _ (elsewhere j ne))
    where
      elsewhere : (j : ℕ) → j ≢ 16 * q + t → same o q t o (j / 16) (j % 16) ≡ false
      elsewhere j ne = ⊎_elim
          (λ (yes' : same o q t o (j / 16) (j % 16) ≡ true).
          let inner = and_parts (eqb (j / 16) q) (eqb (j % 16) t) (and_parts (eqb o o) _ yes').1 in
          absurd (ne (omega (arith, eqb-true (j / 16) q inner.0, eqb-true (j % 16) t inner.1))))
          (λ no'. no')
          (cases_Bool (same o q t o (j / 16) (j % 16)))

  pub owned_other : (a : ℕ) → a ≢ o → owned (put_one o q t true f) a ≡ owned f a
  unfolding owned put_one
  owned_other a ne = count_same _ _ 256 (λ k lt. cond-false _ _ _ (and_left (eqb a o) _ (ne_eqb a o ne)))

eqb_turned : (a b : ℕ) → eqb a b ≡ eqb b a
eqb_turned a b = grind (arith, nat_tests)

-- consents that are the same are equal
consents_equal : (x y : Consent) → same_consent x y ≡ true → x ≡ y
consents_equal x y e =
    let outer = and_parts (eqb x.owner y.owner) _ e in
    let inner = and_parts (eqb x.purpose y.purpose) _ outer.1 in
    λ i. record { owner = eqb-true x.owner y.owner outer.0 i; purpose = eqb-true x.purpose y.purpose inner.0 i; data_type = eqb-true x.data_type y.data_type inner.1 i }

self_same : (x : Consent) → same_consent x x ≡ true
self_same x = and_from _ _ (eq-eqb x.owner x.owner refl) (and_from _ _ (eq-eqb x.purpose x.purpose refl) (eq-eqb x.data_type x.data_type refl))

turned : (o q t a b c : ℕ) → same_consent (consent o q t) (consent a b c) ≡ same o q t a b c
turned o q t a b c = λ i. eqb_turned o a i && (eqb_turned q b i && eqb_turned t c i)

or_as_cond : (s h : Bool) → (s || h) ≡ cond s true h
or_as_cond true h = refl
or_as_cond false h = refl

or_last : (h s : Bool) → (h || s) ≡ cond s true h
or_last true true = refl
or_last true false = refl
or_last false true = refl
or_last false false = refl

not_as_cond : (s h : Bool) → cond (not s) h false ≡ cond s false h
not_as_cond true h = refl
not_as_cond false h = refl

neither : (x : Bool) → false ≡ cond x false false
neither true = refl
neither false = refl

-- a consent is held by a filtered list exactly where it passes and was held
holds_kept : (p : Consent → Bool) (xs : List Consent) (z : Consent) → holds same_consent (filter p xs) z ≡ cond (p z) (holds same_consent xs z) false
holds_kept p [] z = neither (p z)
holds_kept p (y ∷ ys) z =
    let rest = holds_kept p ys z in
    ⊎_elim
    (λ (same' : same_consent y z ≡ true).
    let is : p y ≡ p z = ap p (consents_equal y z same') in
    ⊎_elim
    (λ (keep : p y ≡ true). simp keep (or_left (same_consent y z) _ same' ∙ sym (cond-true _ _ _ (sym is ∙ keep) ∙ or_left (same_consent y z) _ same')))
    (λ (lose : p y ≡ false). simp lose (rest ∙ cond-false _ _ _ (sym is ∙ lose) ∙ sym (cond-false _ _ _ (sym is ∙ lose))))
    (cases_Bool (p y)))
    (λ (other : same_consent y z ≡ false).
    let skip : (same_consent y z || holds same_consent ys z) ≡ holds same_consent ys z = ap (λ b. b || holds same_consent ys z) other in
    ⊎_elim
    (λ (keep : p y ≡ true). simp keep (ap (λ b. b || holds same_consent (filter p ys) z) other ∙ rest ∙ sym (ap (λ h. cond (p z) h false) skip)))
    (λ (lose : p y ≡ false). simp lose (rest ∙ sym (ap (λ h. cond (p z) h false) skip)))
    (cases_Bool (p y)))
    (cases_Bool (same_consent y z))

pub entries_kept : (p : Consent → Bool) (xs : List Consent) (a b c : ℕ) → entries_of (filter p xs) a b c ≡ cond (p (consent a b c)) (entries_of xs a b c) false
unfolding entries_of
entries_kept p xs a b c = holds_kept p xs (consent a b c)

-- what a filter by the negation of a test leaves
pub entries_struck : (s : Consent → Bool) (xs : List Consent) (a b c : ℕ) → entries_of (filter (λ y. not (s y)) xs) a b c ≡ cond (s (consent a b c)) false (entries_of xs a b c)
entries_struck s xs a b c = entries_kept (λ y. not (s y)) xs a b c ∙ not_as_cond (s (consent a b c)) (entries_of xs a b c)

pub entries_push : (xs : List Consent) (o q t : ℕ) → entries_of (xs ++ consent o q t ∷ []) ≡ put_one o q t true (entries_of xs)
unfolding entries_of put_one
entries_push xs o q t =
    fun_ext (λ a. fun_ext (λ b. fun_ext (λ c.
    some_push (λ y. same_consent y (consent a b c)) xs (consent o q t)
    ∙ or_last (holds same_consent xs (consent a b c)) (same_consent (consent o q t) (consent a b c))
    ∙ ap (λ s. cond s true (holds same_consent xs (consent a b c))) (turned o q t a b c))))

entries_cons : (x : Consent) (ys : List Consent) → entries_of (x ∷ ys) ≡ put_one x.owner x.purpose x.data_type true (entries_of ys)
unfolding entries_of put_one
entries_cons x ys =
    fun_ext (λ a. fun_ext (λ b. fun_ext (λ c.
    or_as_cond (same_consent x (consent a b c)) (holds same_consent ys (consent a b c))
    ∙ ap (λ s. cond s true (holds same_consent ys (consent a b c))) (turned x.owner x.purpose x.data_type a b c))))

-- the first of a list lies in range, and what lies behind it too
module _ (x : Consent) (ys : List Consent) (inside : Inside (x ∷ ys)) where
  first_inside : Parts x.owner x.purpose x.data_type
  unfolding entries_of
  first_inside = parts x.owner x.purpose x.data_type (inside x (or_left (same_consent x x) _ (self_same x)))

  rest_inside : Inside ys
  unfolding entries_of
  rest_inside y e = inside y (or_right (same_consent x y) _ e)

none_owned : (o : ℕ) → owned (entries_of []) o ≡ 0
unfolding owned entries_of count_below
none_owned o = refl

-- as many consents of an owner are in the list as the owner has entries
pub owner_count : (xs : List Consent) → apart same_consent xs ≡ true → Inside xs → (o : ℕ) → length (filter (of_owner o) xs) ≡ owned (entries_of xs) o
unfolding entries_of
owner_count [] a inside o = sym (none_owned o)
owner_count (x ∷ ys) a inside o =
    let alone = and_parts (not (holds same_consent ys x)) (apart same_consent ys) a in
    let new : entries_of ys x.owner x.purpose x.data_type ≡ false = not-true (holds same_consent ys x) alone.0 in
    let within = first_inside x ys inside in
    let rest = owner_count ys alone.1 (rest_inside x ys inside) o in
    let is = ap (λ f. owned f o) (entries_cons x ys) in
    ⊎_elim
    (λ (here : o ≡ x.owner).
    let more : owned (put_one x.owner x.purpose x.data_type true (entries_of ys)) o ≡ owned (entries_of ys) o + 1 =
    ap (owned _) here ∙ owned_put (entries_of ys) x.owner x.purpose x.data_type within.purpose within.kind new ∙ ap (λ n. owned (entries_of ys) n + 1) (sym here)
    in
    let yes' : eqb x.owner o ≡ true = eq-eqb x.owner o (sym here) in
    simp yes' (omega arith))
    (λ (ne : o ≡ x.owner → ⊥).
    let as_before = owned_other (entries_of ys) x.owner x.purpose x.data_type within.purpose within.kind new o ne in
    let no' : eqb x.owner o ≡ false = ne_eqb x.owner o (λ e. ne (sym e)) in
    simp no' (omega arith))
    (cases_eq o x.owner)

-- the sum of a function's values below n
unfoldable pub sum_below : (ℕ → ℕ) → ℕ → ℕ
sum_below f zero = 0
sum_below f (suc n) = f n + sum_below f n

sum_zero : (n : ℕ) → sum_below (λ k. 0) n ≡ 0
unfolding sum_below
sum_zero zero = refl
sum_zero (suc n) = omega (arith, sum_zero n)

sum_same : (f g : ℕ → ℕ) (n : ℕ) → ((k : ℕ) → k < n → f k ≡ g k) → sum_below f n ≡ sum_below g n
unfolding sum_below
sum_same f g zero h = refl
sum_same f g (suc n) h = omega (arith, h n (omega arith), sum_same f g n (λ k lt. h k (omega arith)))

sum_more : (f g : ℕ → ℕ) (n k : ℕ) → k < n → g k ≡ f k + 1 → ((j : ℕ) → j ≢ k → g j ≡ f j) → sum_below g n ≡ sum_below f n + 1
unfolding sum_below
sum_more f g zero k lt here others = absurd (omega arith)
sum_more f g (suc n) k lt here others =
    ⊎_elim
    (λ (e : k ≡ n).
    let last : g n ≡ f n + 1 = subst (λ j. g j ≡ f j + 1) e here in
    omega (arith, sum_same g f n (λ j below. others j (λ i. omega arith))))
    (λ (ne : k ≡ n → ⊥). omega (arith, sum_more f g n k (omega arith) here others, others n (λ i. ne (sym i))))
    (cases_eq k n)

sum_le : (f : ℕ → ℕ) (m n : ℕ) → ((k : ℕ) → f k ≤ m) → sum_below f n ≤ m * n
unfolding sum_below
sum_le f m zero h = omega arith
sum_le f m (suc n) h = omega (arith, sum_le f m n h, h n, mul-suc m n)

sum_lt : (f : ℕ → ℕ) (m n k : ℕ) → ((k : ℕ) → f k ≤ m) → k < n → f k < m → sum_below f n < m * n
unfolding sum_below
sum_lt f m zero k h lt less = absurd (omega arith)
sum_lt f m (suc n) k h lt less =
    ⊎_elim
    (λ (here : k ≡ n). let last : f n ≡ f k = ap f (sym here) in omega (arith, sum_le f m n h, mul-suc m n))
    (λ ne. omega (arith, sum_lt f m n k h (omega arith) less, h n, mul-suc m n))
    (cases_eq k n)

-- every consent of the list is one of some owner's
by_owners : (xs : List Consent) → Inside xs → length xs ≡ sum_below (λ o. length (filter (of_owner o) xs)) 128
by_owners [] inside = sym (sum_zero 128)
by_owners (x ∷ ys) inside =
    let within = first_inside x ys inside in
    let rest = by_owners ys (rest_inside x ys inside) in
    let more = sum_more (λ o. length (filter (of_owner o) ys)) (λ o. length (filter (of_owner o) (x ∷ ys))) 128 x.owner within.owner here others in
    omega (arith, rest, more)
  where
    here : length (filter (of_owner x.owner) (x ∷ ys)) ≡ length (filter (of_owner x.owner) ys) + 1
    here = let yes' : eqb x.owner x.owner ≡ true = eq-eqb x.owner x.owner refl in simp yes' (omega arith)

    others : (o : ℕ) → o ≢ x.owner → length (filter (of_owner o) (x ∷ ys)) ≡ length (filter (of_owner o) ys)
    others o ne = let no' : eqb x.owner o ≡ false = ne_eqb x.owner o (λ e. ne (sym e)) in simp no' refl

-- while one owner is under the limit there is a place left, whatever the others hold
pub roomy : (xs : List Consent) (limit o : ℕ) → apart same_consent xs ≡ true → Inside xs → Under limit xs → o < 128 → owned (entries_of xs) o < limit → length xs < limit * 128
roomy xs limit o alone inside under o-in less =
    let counts : sum_below (λ a. length (filter (of_owner a) xs)) 128 ≡ sum_below (owned (entries_of xs)) 128 = sum_same _ _ 128 (λ a lt. owner_count xs alone inside a) in
    omega (arith, by_owners xs inside, counts, sum_lt (owned (entries_of xs)) limit 128 o under o-in less)

-- an empty list holds nothing
pub none_held : (xs : List Consent) (o q t : ℕ) → xs ≡ [] → entries_of xs o q t ≡ false
unfolding entries_of
none_held xs o q t none = ap (λ l. holds same_consent l (consent o q t)) none

pub none_owned_by : (xs : List Consent) (o : ℕ) → xs ≡ [] → owned (entries_of xs) o ≡ 0
none_owned_by xs o none = ap (λ l. owned (entries_of l) o) none ∙ none_owned o
