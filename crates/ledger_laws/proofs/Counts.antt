-- How many serials have a fate after a step of the account.
use Rattle.std.proofs.Common.{◌≡◌, ℕ, ◌+◌, Bool, true, false, cond, ◌&&◌, ltb, leb, count_by, Option, sym, refl, ap, ◌∙◌, add-one, arith}
use Rattle.std.proofs.lemmas.Bool.Decides.{nat_tests}
use Rattle.bits.specs.Tables.{one, put, count_below}
use Rattle.vocabulary.proofs.Counts.{count_sum, count_same, count_one_more}
use Rattle.vocabulary.proofs.Puts.{put_here, put_other}
use Rattle.ledger.specs.Places.{Permits, meets, usage_in}
use Rattle.ledger.specs.States.{LedgerState, opens, Sound}
use Rattle.ledger.specs.declared.place.Closing.{Closing}
use Rattle.ledger.specs.declared.place.Use.{Use}
use Rattle.ledger_laws.specs.Fates.{Fate, NeverIssued, StillOpen, WasEntered, WasHandedBack, HasLapsed, is_issued, is_still_open, open_use, fate_by, Account, how_many, issue_step, close_fate, close_step, Accounted}
use Rattle.ledger_laws.proofs.Serials.{passes, count_none, count_serials, count_open}

-- an open serial is not counted among the fates of closed ones
abbrev pub Ended : (Fate → Bool) → Type 0
Ended test = (u : Use) → test (StillOpen u) ≡ false

-- the fate of a permit that is closed is what closed it
closed_fate : (test : Fate → Bool) → Ended test → (c : Closing) (meant : Use → Bool) (f : Fate) → one (test (close_fate c meant f)) ≡ one (test f) + one (passes meant (open_use f) && test (fate_by c))
closed_fate test ended c meant NeverIssued = omega arith
closed_fate test ended c meant WasEntered = omega arith
closed_fate test ended c meant WasHandedBack = omega arith
closed_fate test ended c meant HasLapsed = omega arith
closed_fate test ended c meant (StillOpen u) =
    let not_yet : one (test (StillOpen u)) ≡ 0 = ap one (ended u) in
    elim (meant u) as (λ b. one (test (cond b (fate_by c) (StillOpen u))) ≡ one (test (StillOpen u)) + one (b && test (fate_by c))) [
      | true ↦ omega arith
      | false ↦ omega arith
    ]

-- all of them or none
gained : (p : ℕ → Bool) (b : Bool) (n : ℕ) → count_below (λ k. p k && b) n ≡ cond b (count_below p n) 0
gained p true n = count_same (λ k. p k && true) p n (λ k lt. with_true (p k))
  where
    with_true : (x : Bool) → (x && true) ≡ x
    with_true true = refl
    with_true false = refl
gained p false n = count_same (λ k. p k && false) (λ _. false) n (λ k lt. with_false (p k)) ∙ count_none n
  where
    with_false : (x : Bool) → (x && false) ≡ false
    with_false true = refl
    with_false false = refl

module _ (a : Account) (s : LedgerState) (sound : Sound s) (acc : Accounted a s) where
  -- the fate that the closing gives is had by as many serials more as permits are closed
  pub closed_count : (c : Closing) (these : Permits) (test : Fate → Bool) → Ended test → how_many test (close_step c these a) ≡ how_many test a + cond (test (fate_by c)) (count_by (meets these) s.places) 0
  closed_count c these test ended =
      count_sum (λ n. test (close_fate c (these n) (a.fate n))) (λ n. test (a.fate n)) (λ n. passes (these n) (open_use (a.fate n)) && test (fate_by c)) (a.issued + 1)
      (λ n lt. closed_fate test ended c (these n) (a.fate n))
      ∙ ap (λ (n : ℕ). how_many test a + n)
      (gained (λ n. passes (these n) (open_use (a.fate n))) (test (fate_by c)) (a.issued + 1) ∙ ap (λ (n : ℕ). cond (test (fate_by c)) n 0) (sym meant))
    where
      meant : count_by (meets these) s.places ≡ count_below (λ n. passes (these n) (open_use (a.fate n))) (a.issued + 1)
      meant =
          count_serials these s.issued s.places sound.within sound.apart
          ∙ ap (λ (g : ℕ → Option Use). count_below (λ n. passes (these n) (g n)) (s.issued + 1)) acc.uses
          ∙ ap (λ (i : ℕ). count_below (λ n. passes (these n) (open_use (a.fate n))) (i + 1)) acc.issued

  -- the serial after the last that was issued
  next_fate : a.fate (a.issued + 1) ≡ NeverIssued
  next_fate = never (a.fate (a.issued + 1)) (acc.fated (a.issued + 1) ∙ above a.issued)
    where
      above : (i : ℕ) → (ltb 0 (i + 1) && leb (i + 1) i) ≡ false
      above i = grind (arith, nat_tests)

      never : (f : Fate) → is_issued f ≡ false → f ≡ NeverIssued
      never NeverIssued e = refl
      never (StillOpen u) e = cc
      never WasEntered e = cc
      never WasHandedBack e = cc
      never HasLapsed e = cc

  -- a draw gives no serial another fate
  pub drawn_count : (u : Use) (test : Fate → Bool) → Ended test → test NeverIssued ≡ false → how_many test a ≡ how_many test (issue_step u a)
  unfolding count_below
  drawn_count u test ended never =
      let i = a.issued + 1 in
      let new : one (test (put i (StillOpen u) a.fate i)) ≡ 0 = ap (λ (f : Fate). one (test f)) (put_here i a.fate (StillOpen u)) ∙ ap one (ended u) in
      let old : test (a.fate i) ≡ false = ap test next_fate ∙ never in
      let more =
      count_one_more (λ n. test (put i (StillOpen u) a.fate n)) (λ n. test (a.fate n)) i (i + 1) (omega arith) old
      (λ k other. ap test (put_other i a.fate (StillOpen u) k other)) in
      let last : count_below (λ n. test (a.fate n)) (i + 1) ≡ one (test (a.fate i)) + count_below (λ n. test (a.fate n)) i = ap (count_below (λ n. test (a.fate n))) (add-one i) in
      omega (arith, new, more, last, ap one old)

-- the open places are as many as the open serials
pub open_count : (a : Account) (s : LedgerState) → Sound s → s.issued ≡ a.issued → usage_in s.places ≡ (λ n. open_use (a.fate n)) → opens s ≡ how_many is_still_open a
open_count a s sound issued uses =
    count_open s.places
    ∙ count_serials (λ _ _. true) s.issued s.places sound.within sound.apart
    ∙ ap (λ (g : ℕ → Option Use). count_below (λ n. passes (λ _. true) (g n)) (s.issued + 1)) uses
    ∙ ap (λ (i : ℕ). count_below (λ n. passes (λ _. true) (open_use (a.fate n))) (i + 1)) issued
    ∙ count_same (λ n. passes (λ _. true) (open_use (a.fate n))) (λ n. is_still_open (a.fate n)) (a.issued + 1) (λ n lt. same (a.fate n))
  where
    same : (f : Fate) → passes (λ _. true) (open_use f) ≡ is_still_open f
    same NeverIssued = refl
    same (StillOpen u) = refl
    same WasEntered = refl
    same WasHandedBack = refl
    same HasLapsed = refl
