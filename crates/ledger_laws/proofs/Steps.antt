-- A ledger that is as the account has it stays so, event by event.
use Rattle.std.proofs.Common.{◌≡◌, ℕ, ◌+◌, ◌<◌, Bool, true, false, cond, ◌&&◌, eqb, ltb, leb, is_some, Some, None, count_by, Option, sym, refl, ap, ◌∙◌, subst, inl, inr, arith}
use mathlib.Core.Path.{fun_ext}
use Rattle.std.proofs.lemmas.Bool.{cases_Bool, cases_eq, eq-eqb, ne_eqb, ltb-true}
use Rattle.std.proofs.lemmas.Bool.Decides.{nat_tests}
use Rattle.vocabulary.specs.Questions.{if_accepted}
use Rattle.bits.specs.Tables.{one, put}
use Rattle.ledger.specs.Places.{Permits, meets, usage_in, permits_of}
use Rattle.ledger.specs.States.{LedgerState, opens, drawn, closed, after_draw, after_close, Sound}
use Rattle.ledger.specs.declared.place.Closing.{Closing}
use Rattle.ledger.specs.declared.place.Closing.TheVariants.{Entry, HandingBack, Lapse}
use Rattle.ledger.specs.declared.place.Use.{Use}
use Rattle.ledger.specs.declared.place.Which.TheVariants.{Serial}
use Rattle.ledger.proofs.Closings.{count_serial, closed_none}
use Rattle.ledger.proofs.Draws.{absent, placed_usage}
use Rattle.ledger_laws.specs.Fates.{Fate, NeverIssued, StillOpen, WasEntered, WasHandedBack, HasLapsed, is_issued, is_entered, is_handed_back, is_lapsed, open_use, fate_by, Account, issue_step, draw_step, close_fate, close_step, Accounted}
use Rattle.ledger_laws.proofs.Serials.{kept, cleared_usage}
use Rattle.ledger_laws.proofs.Counts.{closed_count, drawn_count, open_count}

-- a closing adds to the count whose fate it is
abbrev pub gain : Closing → Permits → LedgerState → (Fate → Bool) → ℕ
gain c these s test = cond (test (fate_by c)) (count_by (meets these) s.places) 0

pub closed_parts : (c : Closing) (these : Permits) (s : LedgerState) → ((closed c these s).issued ≡ s.issued) × ((closed c these s).entered ≡ s.entered + gain c these s is_entered) × ((closed c these s).handed_back ≡ s.handed_back + gain c these s is_handed_back) × ((closed c these s).lapsed ≡ s.lapsed + gain c these s is_lapsed)
closed_parts Entry these s = (refl, refl, omega arith, omega arith)
closed_parts HandingBack these s = (refl, omega arith, refl, omega arith)
closed_parts Lapse these s = (refl, omega arith, omega arith, refl)

module _ (a : Account) (s : LedgerState) (sound : Sound s) (acc : Accounted a s) where
  -- the open uses and the numbers with a fate, when some permits are closed
  module _ (c : Closing) (these : Permits) where
    closed_uses : usage_in (closed c these s).places ≡ (λ n. open_use (close_fate c (these n) (a.fate n)))
    closed_uses =
        fun_ext (λ n.
        at c n
        ∙ cleared_usage these s.places sound.apart n
        ∙ ap (λ (g : ℕ → Option Use). kept (these n) (g n)) acc.uses
        ∙ left (these n) (a.fate n))
      where
        at : (c : Closing) (n : ℕ) → usage_in (closed c these s).places n ≡ usage_in (closed Entry these s).places n
        at Entry n = refl
        at HandingBack n = refl
        at Lapse n = refl

        ends : (c : Closing) → open_use (fate_by c) ≡ None
        ends Entry = refl
        ends HandingBack = refl
        ends Lapse = refl

        left : (meant : Use → Bool) (f : Fate) → kept meant (open_use f) ≡ open_use (close_fate c meant f)
        left meant NeverIssued = refl
        left meant WasEntered = refl
        left meant WasHandedBack = refl
        left meant HasLapsed = refl
        left meant (StillOpen u) = elim (meant u) as (λ b. cond b None (Some u) ≡ open_use (cond b (fate_by c) (StillOpen u))) [ true ↦ sym (ends c) | false ↦ refl ]

    closed_fated : (n : ℕ) → is_issued (close_fate c (these n) (a.fate n)) ≡ (ltb 0 n && leb n a.issued)
    closed_fated n = same (these n) (a.fate n) ∙ acc.fated n
      where
        ends : (c : Closing) → is_issued (fate_by c) ≡ true
        ends Entry = refl
        ends HandingBack = refl
        ends Lapse = refl

        same : (meant : Use → Bool) (f : Fate) → is_issued (close_fate c meant f) ≡ is_issued f
        same meant NeverIssued = refl
        same meant WasEntered = refl
        same meant WasHandedBack = refl
        same meant HasLapsed = refl
        same meant (StillOpen u) = elim (meant u) as (λ b. is_issued (cond b (fate_by c) (StillOpen u)) ≡ true) [ true ↦ ends c | false ↦ refl ]

    pub close_accounted : Sound (closed c these s) → Accounted (close_step c these a) (closed c these s)
    close_accounted after =
        let parts = closed_parts c these s in
        let issued = parts.0 ∙ acc.issued in
        record {
          issued = issued;
          entered = omega (arith, parts.1, acc.entered, closed_count a s sound acc c these is_entered (λ u. refl));
          handed_back = omega (arith, parts.2, acc.handed_back, closed_count a s sound acc c these is_handed_back (λ u. refl));
          lapsed = omega (arith, parts.3, acc.lapsed, closed_count a s sound acc c these is_lapsed (λ u. refl));
          still_open = open_count (close_step c these a) (closed c these s) after issued closed_uses;
          uses = closed_uses;
          fated = closed_fated;
        }

  -- a closing that is refused is one that closes nothing
  pub close_all : (c : Closing) (n : ℕ) → after_close c n s ≡ closed c (permits_of (Serial n)) s
  close_all c n =
      elim (cases_Bool (is_some (usage_in s.places n))) [
        | inl open-here ↦ simp open-here
        | inr shut ↦
            let none : count_by (meets (permits_of (Serial n))) s.places ≡ 0 = count_serial n s.places sound.apart ∙ ap one shut in
            simp shut (sym (closed_none c (permits_of (Serial n)) s none))
      ]

  -- a draw that is accepted
  pub drawn_accounted : (u : Use) → opens s < 8 → Sound (drawn u s) → Accounted (issue_step u a) (drawn u s)
  drawn_accounted u room after =
      let issued : s.issued + 1 ≡ a.issued + 1 = ap (λ (n : ℕ). n + 1) acc.issued in
      let uses = drawn_uses u room in
      record {
        issued = issued;
        entered = acc.entered ∙ drawn_count a s sound acc u is_entered (λ u. refl) refl;
        handed_back = acc.handed_back ∙ drawn_count a s sound acc u is_handed_back (λ u. refl) refl;
        lapsed = acc.lapsed ∙ drawn_count a s sound acc u is_lapsed (λ u. refl) refl;
        still_open = open_count (issue_step u a) (drawn u s) after issued uses;
        uses = uses;
        fated = drawn_fated u;
      }
    where
      drawn_uses : (u : Use) → opens s < 8 → usage_in (drawn u s).places ≡ (λ n. open_use (put (a.issued + 1) (StillOpen u) a.fate n))
      drawn_uses u room =
          placed_usage (s.issued + 1) u s.places (omega (arith, sound.eight)) (absent s.issued (s.issued + 1) s.places sound.within (inr (omega arith)))
          ∙ ap (λ (g : ℕ → Option Use). put (s.issued + 1) (Some u) g) acc.uses
          ∙ ap (λ (i : ℕ). put (i + 1) (Some u) (λ n. open_use (a.fate n))) acc.issued
          ∙ fun_ext (λ n. elim (eqb n (a.issued + 1)) as (λ b. cond b (Some u) (open_use (a.fate n)) ≡ open_use (cond b (StillOpen u) (a.fate n))) [ true ↦ refl | false ↦ refl ])

      drawn_fated : (u : Use) (n : ℕ) → is_issued (put (a.issued + 1) (StillOpen u) a.fate n) ≡ (ltb 0 n && leb n (a.issued + 1))
      drawn_fated u n =
          elim (cases_eq n (a.issued + 1)) [
            | inl here ↦ let e = eq-eqb n (a.issued + 1) here in simp e (last n a.issued here)
            | inr other ↦ let e = ne_eqb n (a.issued + 1) other in simp e (acc.fated n ∙ before n a.issued other)
          ]
        where
          last : (n i : ℕ) → n ≡ i + 1 → true ≡ (ltb 0 n && leb n (i + 1))
          last n i e = grind (arith, nat_tests)

          before : (n i : ℕ) → (n ≡ i + 1 → ⊥) → (ltb 0 n && leb n i) ≡ (ltb 0 n && leb n (i + 1))
          before n i other = grind (arith, nat_tests)

  pub draw_accounted : (u : Use) → Sound (after_draw u s) → Accounted (draw_step u a) (after_draw u s)
  draw_accounted u after =
      subst (λ (b : Account). Accounted b (after_draw u s)) same (either (ltb (opens s) 8) (ltb s.issued 65535) refl after)
    where
      either : (few more : Bool) → ltb (opens s) 8 ≡ few → Sound (if_accepted (cond few (cond more 0 17) 16) (drawn u s) s) → Accounted (cond (few && more) (issue_step u a) a) (if_accepted (cond few (cond more 0 17) 16) (drawn u s) s)
      either true true e after = drawn_accounted u (ltb-true (opens s) 8 e) after
      either true false e after = acc
      either false more e after = acc

      same : cond (ltb (opens s) 8 && ltb s.issued 65535) (issue_step u a) a ≡ draw_step u a
      same = λ k. cond (ltb (acc.still_open k) 8 && ltb (acc.issued k) 65535) (issue_step u a) a
