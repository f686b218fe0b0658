-- The open places and the open serials: one for one.
use Rattle.std.proofs.Common.{◌≡◌, ℕ, zero, suc, ◌+◌, Bool, true, false, cond, eqb, List, [], ◌∷◌, map, Some, None, count_by, Option, sym, refl, ap, ◌∙◌, inl, inr, arith}
use Rattle.std.proofs.lemmas.Bool.{cases_Bool, eqb-true}
use Rattle.bits.specs.Tables.{one, put, count_below}
use Rattle.vocabulary.proofs.Counts.{count_one_more}
use Rattle.vocabulary.proofs.Puts.{put_here, put_other}
use Rattle.ledger.specs.Places.{Permits, is_open, meets, cleared, usage_in, inside, distinct}
use Rattle.ledger.specs.declared.place.Place.{Place}
use Rattle.ledger.specs.declared.place.Place.TheVariants.{Empty, Open}
use Rattle.ledger.specs.declared.place.Use.{Use}
use Rattle.ledger.proofs.Closings.{count_cons, distinct_first, distinct_rest}
use Rattle.ledger.proofs.Draws.{inside_most, inside_rest}

-- an open use that is meant
abbrev pub passes : (Use → Bool) → Option Use → Bool
passes meant None = false
passes meant (Some u) = meant u

-- an open use that is not
abbrev pub kept : (Use → Bool) → Option Use → Option Use
kept meant None = None
kept meant (Some u) = cond (meant u) None (Some u)

pub count_none : (n : ℕ) → count_below (λ _. false) n ≡ 0
unfolding count_below
count_none zero = refl
count_none (suc n) = omega (arith, count_none n)

module _ (these : Permits) where
  -- as many places are meant as serials
  pub count_serials : (n : ℕ) (ps : List Place) → inside n ps ≡ true → distinct ps ≡ true → count_by (meets these) ps ≡ count_below (λ k. passes (these k) (usage_in ps k)) (n + 1)
  count_serials n [] e d = sym (count_none (n + 1))
  count_serials n (Empty ∷ ps) e d = count_cons (meets these) Empty ps ∙ omega (arith, count_serials n ps e d)
  count_serials n (Open m v ∷ ps) e d =
      let rest = count_serials n ps (inside_rest n m v ps e) (distinct_rest m v ps d) in
      let here : one (passes (these m) (put m (Some v) (usage_in ps) m)) ≡ one (these m v) = ap (λ (o : Option Use). one (passes (these m) o)) (put_here m (usage_in ps) (Some v)) in
      let more =
      count_one_more (λ k. passes (these k) (put m (Some v) (usage_in ps) k)) (λ k. passes (these k) (usage_in ps k)) m (n + 1)
      (omega (arith, inside_most n m v ps e))
      (ap (passes (these m)) (distinct_first m v ps d))
      (λ k other. ap (passes (these k)) (put_other m (usage_in ps) (Some v) k other)) in
      count_cons (meets these) (Open m v) ps ∙ omega (arith, rest, here, more)

  -- a closing leaves open the serials that are not meant
  pub cleared_usage : (ps : List Place) → distinct ps ≡ true → (k : ℕ) → usage_in (map (cleared these) ps) k ≡ kept (these k) (usage_in ps k)
  cleared_usage [] d k = refl
  cleared_usage (Empty ∷ ps) d k = cleared_usage ps d k
  cleared_usage (Open m v ∷ ps) d k =
      let rest = cleared_usage ps (distinct_rest m v ps d) k in
      elim (cases_Bool (eqb k m)) [
        | inl same ↦
            let at : k ≡ m = eqb-true k m same in
            let gone : usage_in (map (cleared these) ps) k ≡ None = rest ∙ ap (λ (j : ℕ). kept (these k) (usage_in ps j)) at ∙ ap (kept (these k)) (distinct_first m v ps d) in
            let head : usage_in (cond (these m v) Empty (Open m v) ∷ map (cleared these) ps) k ≡ cond (these m v) None (Some v) = elim (these m v) as (λ b. usage_in (cond b Empty (Open m v) ∷ map (cleared these) ps) k ≡ cond b None (Some v)) [ true ↦ gone | false ↦ rw same refl ] in
            head ∙ ap (λ (j : ℕ). cond (these j v) None (Some v)) (sym at) ∙ rw same refl
        | inr other ↦
            let head : usage_in (cond (these m v) Empty (Open m v) ∷ map (cleared these) ps) k ≡ usage_in (map (cleared these) ps) k = elim (these m v) as (λ b. usage_in (cond b Empty (Open m v) ∷ map (cleared these) ps) k ≡ usage_in (map (cleared these) ps) k) [ true ↦ refl | false ↦ rw other refl ] in
            head ∙ rest ∙ rw other refl
      ]

-- an open place is one that is meant where all are
pub count_open : (ps : List Place) → count_by is_open ps ≡ count_by (meets (λ _ _. true)) ps
count_open [] = refl
count_open (Empty ∷ ps) = count_cons is_open Empty ps ∙ ap (λ (n : ℕ). 0 + n) (count_open ps) ∙ sym (count_cons (meets (λ _ _. true)) Empty ps)
count_open (Open m v ∷ ps) = count_cons is_open (Open m v) ps ∙ ap (λ (n : ℕ). 1 + n) (count_open ps) ∙ sym (count_cons (meets (λ _ _. true)) (Open m v) ps)
