-- Every point of every history.
use Rattle.std.proofs.Common.{◌≡◌, ℕ, zero, suc, List, sym, refl, ap, ◌∙◌}
use Rattle.std.proofs.lemmas.Bool.{ne_eqb}
use Rattle.hierarchy.specs.Laws.{Exactly}
use Rattle.ledger.specs.Table.{Table}
use Rattle.rules.specs.State.{State, Bounds}
use Rattle.rules.specs.Views.{View, view}
use Rattle.rules.specs.Numbers.{number, use_of}
use Rattle.rules.specs.Rules.{answer, ledgers_refused, after}
use Rattle.rules.specs.declared.call.Call.{Call}
use Rattle.rules.specs.declared.call.Call.TheVariants.{Command as CommandCall, Draw, Enter, HandBack, Ledger}
use Rattle.law.specs.Account.{account_view}
use Rattle.law.specs.Histories.{state_of, past_of}
use Rattle.law.specs.Law.{Drawable, Enterable, Point}
use Rattle.law.proofs.Keeps.{history_as, view_as}
use Rattle.law.proofs.Covering.{draw_exactly, enter_exactly}

-- a refused call leaves everything, unless it is an entry that is refused with 19
ledgers_left : (c : Call) (n : ℕ) (f : Table) → (n ≡ 19 → ⊥) → ledgers_refused c n f ≡ f
ledgers_left (CommandCall c) n f ne = refl
ledgers_left (Draw u) n f ne = refl
ledgers_left (Enter o m) n f ne = let e = ne_eqb n 19 ne in simp e
ledgers_left (HandBack o m) n f ne = refl
ledgers_left (Ledger o) n f ne = refl

all_left : (c : Call) (n : ℕ) (s : State) → (n ≡ 0 → ⊥) → (n ≡ 19 → ⊥) → after c n s ≡ s
all_left c zero s nz ne = absurd (nz refl)
all_left c (suc n) s nz ne = ap (λ f. record { tables = s.tables; register = s.register; ledgers = f }) (ledgers_left c (suc n) s.ledgers ne)

-- what is said upon the account is said upon the state
said_of : (f : View → ℕ) (v w : View) (P : Type 0) → v ≡ w → Exactly (f w ≡ 0) P → Exactly (f v ≡ 0) P
said_of f v w P e both = ((λ z. both.0 (sym (ap f e) ∙ z)), (λ p. ap f e ∙ both.1 p))

pub point : (k : Bounds) (calls : List Call) → Point k calls
point k calls =
    let s = state_of k calls in
    let past = past_of k calls in
    let told = history_as k calls in
    let same = view_as k past s told in
    record {
      tables = told.tables;
      triples = told.word;
      ledgers = λ o. (told.ledgers o).accounted;
      adds = λ o. (told.ledgers o).sound.balance;
      next = λ c. record {
        answers = ap (λ v. answer k v c) same;
        refused = λ nz ne. all_left c (number k (view s) c) s nz ne;
      };
      draws = λ u. said_of (λ v. number k v (Draw u)) (view s) (account_view past) (Drawable past u) same (draw_exactly past u);
      uses = λ x p b q. said_of (λ v. number k v (Draw (use_of x p b q))) (view s) (account_view past) (Drawable past (use_of x p b q)) same (draw_exactly past (use_of x p b q));
      looks = λ x p b q. said_of (λ v. number k v (Draw (use_of x p b q))) (view s) (account_view past) (Drawable past (use_of x p b q)) same (draw_exactly past (use_of x p b q));
      entries = λ o n. said_of (λ v. number k v (Enter o n)) (view s) (account_view past) (Enterable past o n) same (enter_exactly past k o n);
    }
