-- Lists of events, one event on.
use Rattle.std.proofs.Common.{◌≡◌, ℕ, zero, suc, ◌+◌, ◌<◌, ◌≤◌, Bool, false, ◌&&◌, ltb, leb, List, [], ◌∷◌, ◌++◌, reverse, length, get_or, take, is_some, Option, sym, refl, ap, ◌∙◌, subst, inl, inr, append-nil, arith}
use mathlib.Core.List.{reverse-append}
use Rattle.std.proofs.lemmas.List.{take_more}
use Rattle.std.proofs.lemmas.Bool.{cases_eq, cases_lt, le-ltb}
use Rattle.std.proofs.lemmas.Bool.Decides.{nat_tests}
use Rattle.vocabulary.specs.Questions.{asks, first_no, if_accepted}
use Rattle.bits.specs.Tables.{put}
use Rattle.vocabulary.proofs.Puts.{put_here, put_other}
use Rattle.ledger.specs.Places.{usage_in, permits_of}
use Rattle.ledger.specs.States.{LedgerState, empty_ledger, drawn, closed, Sound}
use Rattle.ledger.specs.Table.{Table, ledgers_of, bare_ledgers, known, close_asked}
use Rattle.ledger.specs.declared.place.Closing.TheVariants.{Lapse}
use Rattle.ledger.specs.declared.ledgers.Ledgers.{Ledgers}
use Rattle.ledger.specs.declared.place.Use.{Use}
use Rattle.ledger.specs.declared.place.Which.TheVariants.{Serial, All}
use Rattle.ledger_laws.specs.Events.{call_answer, event_left}
use Rattle.ledger_laws.specs.Fates.{Fate, NeverIssued, StillOpen, WasEntered, WasHandedBack, HasLapsed, is_still_open, open_use, Account, step, account, account_answer, Accounted}
use Rattle.ledger_laws.specs.declared.event.LedgerEvent.{LedgerEvent}
use Rattle.ledger_laws.specs.declared.event.LedgerEvent.TheVariants.{Of, SessionsEnd}
use Rattle.ledger_laws.specs.declared.event.OwnerCall.{OwnerCall}
use Rattle.ledger_laws.specs.declared.event.OwnerCall.TheVariants.{Draw, Close, LapseAll}
use Rattle.ledger_laws.proofs.Owners.{event_accounted}
use Rattle.ledger_laws.proofs.Steps.{closed_parts}
use Rattle.ledger_laws.proofs.Serials.{count_none}

-- nothing was drawn, and the account has nothing
pub none_accounted : (o : ℕ) → Accounted (account o []) empty_ledger
unfolding account
none_accounted o = record {
  issued = refl;
  entered = sym (count_none 1);
  handed_back = sym (count_none 1);
  lapsed = sym (count_none 1);
  still_open = sym (count_none 1);
  uses = refl;
  fated = λ n. no_serial n;
}
  where
    no_serial : (n : ℕ) → false ≡ (ltb 0 n && leb n 0)
    no_serial n = grind (arith, nat_tests)

-- no event takes back a serial
grows_put : (answer k : ℕ) (s : LedgerState) (f : Table) (o : ℕ) → (f k).issued ≤ s.issued → (f o).issued ≤ (if_accepted answer (put k s f) f o).issued
grows_put (suc n) k s f o le = omega arith
grows_put zero k s f o le =
    elim (cases_eq o k) [
      | inl here ↦
          let now-is : (put k s f o).issued ≡ s.issued = ap (λ (j : ℕ). (put k s f j).issued) here ∙ ap (λ (t : LedgerState). t.issued) (put_here k f s) in
          let was : (f o).issued ≡ (f k).issued = ap (λ (j : ℕ). (f j).issued) here in
          omega arith
      | inr other ↦ let now-is : (put k s f o).issued ≡ (f o).issued = ap (λ (t : LedgerState). t.issued) (put_other k f s o other) in omega arith
    ]

event_grows : (e : LedgerEvent) (f : Table) (o : ℕ) → (f o).issued ≤ (event_left e f o).issued
event_grows (Of k (Draw u)) f o = grows_put _ k (drawn u (f k)) f o (omega arith)
event_grows (Of k (Close n c)) f o = grows_put _ k (closed c (permits_of (Serial n)) (f k)) f o (omega (arith, (closed_parts c (permits_of (Serial n)) (f k)).0))
event_grows (Of k LapseAll) f o = grows_put _ k (closed Lapse (permits_of All) (f k)) f o (omega arith)
event_grows (SessionsEnd ended) f o = omega arith

account_more : (o : ℕ) (before es : List LedgerEvent) (i : ℕ) (d : LedgerEvent) → i < length es → account o (reverse (take (i + 1) es) ++ before) ≡ step o (get_or es i d) (account o (reverse (take i es) ++ before))
unfolding account
account_more o before es i d lt =
    ap (λ (xs : List LedgerEvent). account o (reverse xs ++ before)) (take_more es i d lt)
    ∙ ap (λ (xs : List LedgerEvent). account o (xs ++ before)) (reverse-append (take i es) (get_or es i d ∷ []))

-- the events before i left f, and the event at i leaves g
module _ (es : List LedgerEvent) (i : ℕ) (d : LedgerEvent) (f g : Table) (lt : i < length es) (next : g ≡ event_left (get_or es i d) f) where
  pub grows_more : (o : ℕ) → (f o).issued ≤ (g o).issued
  grows_more o = subst (λ (h : Table). (f o).issued ≤ (h o).issued) (sym next) (event_grows (get_or es i d) f o)

  pub accounted_more : (o : ℕ) (before : List LedgerEvent) → o < 128 → Sound (f o) → Sound (g o) → Accounted (account o (reverse (take i es) ++ before)) (f o) → Accounted (account o (reverse (take (i + 1) es) ++ before)) (g o)
  accounted_more o before within_range sound after acc =
      subst (λ (a : Account). Accounted a (g o)) (sym (account_more o before es i d lt))
      (subst (λ (h : Table). Accounted (step o (get_or es i d) (account o (reverse (take i es) ++ before))) (h o)) (sym next)
      (event_accounted o within_range (account o (reverse (take i es) ++ before)) f sound acc (get_or es i d) (subst (λ (h : Table). Sound (h o)) next after)))

-- from bare ledgers, an account that goes on over the events is the account of the events
pub from_bare : (es : List LedgerEvent) (was made : Ledgers) → ledgers_of was ≡ bare_ledgers → ((o : ℕ) (before : List LedgerEvent) → o < 128 → Accounted (account o before) (ledgers_of was o) → Accounted (account o (reverse es ++ before)) (ledgers_of made o)) → (o : ℕ) → o < 128 → Accounted (account o (reverse es)) (ledgers_of made o)
from_bare es was made bare goes_on o lt =
    subst (λ (events : List LedgerEvent). Accounted (account o events) (ledgers_of made o)) (append-nil (reverse es))
    (goes_on o [] lt (subst (λ (h : Table). Accounted (account o []) (h o)) (sym bare) (none_accounted o)))

-- what the account answers, the ledger answers
pub answer_told : (o : ℕ) (call : OwnerCall) (a : Account) (f : Table) → (o < 128 → Accounted a (f o)) → call_answer o call f ≡ account_answer o call a
answer_told o call a f told =
    elim (cases_lt o 128) [
      | inl lt ↦ within_range call (told lt)
      | inr past ↦ let out = le-ltb o 128 past in out_of_range call out
    ]
  where
    open_told : Accounted a (f o) → (n : ℕ) → is_some (usage_in (f o).places n) ≡ is_still_open (a.fate n)
    open_told acc n = ap (λ (g : ℕ → Option Use). is_some (g n)) acc.uses ∙ same (a.fate n)
      where
        same : (x : Fate) → is_some (open_use x) ≡ is_still_open x
        same NeverIssued = refl
        same (StillOpen u) = refl
        same WasEntered = refl
        same WasHandedBack = refl
        same HasLapsed = refl

    close_told : Accounted a (f o) → (n : ℕ) → first_no (close_asked o n f) ≡ first_no (known o ∷ asks 18 (is_still_open (a.fate n)) ∷ [])
    close_told acc n = ap (λ (b : Bool). first_no (known o ∷ asks 18 b ∷ [])) (open_told acc n)

    within_range : (call : OwnerCall) → Accounted a (f o) → call_answer o call f ≡ account_answer o call a
    within_range (Draw u) acc = λ k. first_no (known o ∷ asks 16 (ltb (acc.still_open k) 8) ∷ asks 17 (ltb (acc.issued k) 65535) ∷ [])
    within_range (Close n c) acc = close_told acc n
    within_range LapseAll acc = refl

    out_of_range : (call : OwnerCall) → ltb o 128 ≡ false → call_answer o call f ≡ account_answer o call a
    out_of_range (Draw u) out = simp out
    out_of_range (Close n c) out = simp out
    out_of_range LapseAll out = refl
