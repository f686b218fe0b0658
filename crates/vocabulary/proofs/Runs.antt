-- A run of which the first entries have been gone through.
use Rattle.std.proofs.Common.{◌≡◌, ℕ, zero, suc, ◌<◌, List, [], ◌∷◌, length, get_or, set, refl, ap, arith}
use Rattle.vocabulary.specs.Runs.{answered, after_all}

-- the entries with the first k marked
unfoldable pub first_answered : {S E : Type 0} → (S → E → E) → (S → E → S) → ℕ → S → List E → List E
first_answered mark after zero s es = es
first_answered mark after (suc k) s [] = []
first_answered mark after (suc k) s (e ∷ es) = mark s e ∷ first_answered mark after k (after s e) es

-- the state that the first k leave
unfoldable pub after_first : {S E : Type 0} → (S → E → S) → ℕ → S → List E → S
after_first after zero s es = s
after_first after (suc k) s [] = s
after_first after (suc k) s (e ∷ es) = after_first after k (after s e) es

module _ {S E : Type 0} (mark : S → E → E) (after : S → E → S) where
  pub all_answered : (s : S) (es : List E) → first_answered mark after (length es) s es ≡ answered mark after s es
  unfolding first_answered answered
  all_answered s [] = refl
  all_answered s (e ∷ es) = ap (◌∷◌ (mark s e)) (all_answered (after s e) es)

  pub left_by_all : (s : S) (es : List E) → after_first after (length es) s es ≡ after_all after s es
  unfolding after_first after_all
  left_by_all s [] = refl
  left_by_all s (e ∷ es) = left_by_all (after s e) es

  -- the entry whose turn it is has not been marked yet
  pub not_yet : (k : ℕ) (s : S) (es : List E) (d : E) → k < length es → get_or (first_answered mark after k s es) k d ≡ get_or es k d
  unfolding first_answered
  not_yet k s [] d lt = absurd (omega arith)
  not_yet zero s (e ∷ es) d lt = refl
  not_yet (suc k) s (e ∷ es) d lt = not_yet k (after s e) es d (omega (arith, lt))

  pub one_more : (k : ℕ) (s : S) (es : List E) (d : E) → k < length es → set (first_answered mark after k s es) k (mark (after_first after k s es) (get_or (first_answered mark after k s es) k d)) ≡ first_answered mark after (suc k) s es
  unfolding first_answered after_first
  one_more k s [] d lt = absurd (omega arith)
  one_more zero s (e ∷ es) d lt = refl
  one_more (suc k) s (e ∷ es) d lt = ap (◌∷◌ (mark s e)) (one_more k (after s e) es d (omega (arith, lt)))

  pub one_more_left : (k : ℕ) (s : S) (es : List E) (d : E) → k < length es → after (after_first after k s es) (get_or (first_answered mark after k s es) k d) ≡ after_first after (suc k) s es
  unfolding first_answered after_first
  one_more_left k s [] d lt = absurd (omega arith)
  one_more_left zero s (e ∷ es) d lt = refl
  one_more_left (suc k) s (e ∷ es) d lt = one_more_left k (after s e) es d (omega (arith, lt))

-- what is true of the first state, and stays true by each entry, is true of the last
pub kept_by_all : {S E : Type 0} (after : S → E → S) (P : S → Type 0) → ((s : S) (e : E) → P s → P (after s e)) → (s : S) (es : List E) → P s → P (after_all after s es)
unfolding after_all
kept_by_all after P keeps s [] h = h
kept_by_all after P keeps s (e ∷ es) h = kept_by_all after P keeps (after s e) es (keeps s e h)
