-- What one owner gives and withdraws, nobody else can tell.
use Rattle.std.proofs.Common.{◌≡◌, ℕ, zero, suc, Bool, true, false, cond, eqb, List, [], ◌∷◌, sym, refl, ap, ◌∙◌, subst, inl, inr}
use mathlib.Core.Path.{fun_ext}
use mathlib.Core.Option.{Option, none, some}
use Rattle.std.proofs.lemmas.Bool.{cases_Bool, eqb-true, ne_eqb, true≢false}
use Rattle.vocabulary.specs.Questions.{if_accepted, is_accepted}
use Rattle.register.specs.Meaning.{same}
use Rattle.ledger.specs.States.{LedgerState}
use Rattle.calls.specs.declared.command.Command.TheVariants.{Directory as DirectoryFamily, Consent as ConsentFamily, Session as SessionFamily, Question as QuestionFamily}
use Rattle.calls.specs.declared.command.Consent.TheVariants.{Offer, Retract, Give, Withdraw}
use Rattle.calls.specs.declared.command.Session.TheVariants.{Open, End, ActivateRole, DropRole, AccessPlain, Use as UseCommand, Look}
use Rattle.rules.specs.Told.{Values, Told, accepted, refused}
use Rattle.rules.specs.State.{ObjectState, absent, plain, personal, belongs_to, owner_of, Tables, State, Bounds, bare_state}
use Rattle.rules.specs.Views.{View, view, ledger_view}
use Rattle.rules.specs.Numbers.{number}
use Rattle.rules.specs.Effects.{tables_after}
use Rattle.rules.specs.Rules.{values, layer, answer, next, speaks, concerns}
use Rattle.rules.specs.declared.call.Call.{Call}
use Rattle.rules.specs.declared.call.Call.TheVariants.{Command as CommandCall, Draw, Enter, HandBack, Ledger}
use Rattle.law.specs.Account.{Bearing, leaves, latest, bears}
use Rattle.law.specs.Histories.{state_after, state_of, struck_out, heard_by}
use Rattle.law.specs.Law.{Alike, Unheard}
use Rattle.law.proofs.Rows.{words_after, limit_after, row_after, row_refused, after_by_row}
use Rattle.law.proofs.Hearing.{AlikeViews, answer_alike}

-- ---- alike is an equivalence

alike_same : (o : ℕ) (s : State) → Alike o s s
alike_same o s = record { tables = refl; limit = refl; consents = λ j ne. refl; ledgers = λ j ne. refl }

alike_back : (o : ℕ) (s t : State) → Alike o s t → Alike o t s
alike_back o s t a = record { tables = sym a.tables; limit = sym a.limit; consents = λ j ne. sym (a.consents j ne); ledgers = λ j ne. sym (a.ledgers j ne) }

alike_on : (o : ℕ) (s t u : State) → Alike o s t → Alike o t u → Alike o s u
alike_on o s t u a b = record { tables = a.tables ∙ b.tables; limit = a.limit ∙ b.limit; consents = λ j ne. a.consents j ne ∙ b.consents j ne; ledgers = λ j ne. a.ledgers j ne ∙ b.ledgers j ne }

alike_views : (o : ℕ) (s t : State) → Alike o s t → AlikeViews o (view s) (view t)
alike_views o s t a = record { tables = a.tables; word = a.consents; ledger = λ j ne. ap ledger_view (a.ledgers j ne) }

-- ---- a call that concerns the owner changes nothing but that owner's consents and ledger

no_other : (o w j : ℕ) → eqb w o ≡ true → (j ≡ o → ⊥) → eqb j w ≡ false
no_other o w j e ne = ne_eqb j w (λ h. ne (h ∙ eqb-true w o e))

owns : (o : ℕ) (x : ObjectState) → belongs_to o x ≡ true → eqb (owner_of x) o ≡ true
owns o absent e = absurd (true≢false (sym e))
owns o plain e = absurd (true≢false (sym e))
owns o (personal w types) e = e

module _ (o : ℕ) (t : Tables) (j : ℕ) (ne : j ≡ o → ⊥) where
  -- nobody else's words
  bears_nothing : (c : Call) → concerns c t o ≡ true → (q d : ℕ) → bears c j q d ≡ leaves
  bears_nothing (CommandCall (DirectoryFamily c)) e q d = absurd (true≢false (sym e))
  bears_nothing (CommandCall (ConsentFamily (Offer x y))) e q d = absurd (true≢false (sym e))
  bears_nothing (CommandCall (ConsentFamily (Retract x y))) e q d = absurd (true≢false (sym e))
  bears_nothing (CommandCall (ConsentFamily (Give w x y))) e q d = let z = no_other o w j e ne in simp z
  bears_nothing (CommandCall (ConsentFamily (Withdraw w x y))) e q d = let z = no_other o w j e ne in simp z
  bears_nothing (CommandCall (SessionFamily c)) e q d = refl
  bears_nothing (CommandCall (QuestionFamily c)) e q d = refl
  bears_nothing (Draw u) e q d = refl
  bears_nothing (Enter w n) e q d = refl
  bears_nothing (HandBack w n) e q d = refl
  bears_nothing (Ledger w) e q d = refl

  -- nobody else's ledger
  row_kept : (c : Call) → concerns c t o ≡ true → (l : LedgerState) → row_after t c j l ≡ l
  row_kept (CommandCall (DirectoryFamily c)) e l = absurd (true≢false (sym e))
  row_kept (CommandCall (ConsentFamily c)) e l = refl
  row_kept (CommandCall (SessionFamily (Open s u))) e l = absurd (true≢false (sym e))
  row_kept (CommandCall (SessionFamily (End s))) e l = absurd (true≢false (sym e))
  row_kept (CommandCall (SessionFamily (ActivateRole s r))) e l = absurd (true≢false (sym e))
  row_kept (CommandCall (SessionFamily (DropRole s r))) e l = absurd (true≢false (sym e))
  row_kept (CommandCall (SessionFamily (AccessPlain s p b))) e l = absurd (true≢false (sym e))
  row_kept (CommandCall (SessionFamily (UseCommand s p b q))) e l = let z = no_other o _ j (owns o (t.object b) e) ne in simp z
  row_kept (CommandCall (SessionFamily (Look s p b q))) e l = let z = no_other o _ j (owns o (t.object b) e) ne in simp z
  row_kept (CommandCall (QuestionFamily c)) e l = refl
  row_kept (Draw u) e l = let z = no_other o _ j (owns o (t.object u.object) e) ne in simp z
  row_kept (Enter w n) e l = let z = no_other o w j e ne in simp z
  row_kept (HandBack w n) e l = let z = no_other o w j e ne in simp z
  row_kept (Ledger w) e l = refl

  refused_by_row : (c : Call) → concerns c t o ≡ true → (n : ℕ) (l : LedgerState) → row_refused c n j l ≡ l
  refused_by_row (CommandCall c) e n l = refl
  refused_by_row (Draw u) e n l = refl
  refused_by_row (Enter w m) e n l = let z = no_other o w j e ne in simp z (either (eqb n 19) l)
    where
      either : (b : Bool) (l : LedgerState) → cond b l l ≡ l
      either true l = refl
      either false l = refl
  refused_by_row (HandBack w m) e n l = refl
  refused_by_row (Ledger w) e n l = refl

-- nor any table
tables_kept : (o : ℕ) (t : Tables) (c : Call) → concerns c t o ≡ true → tables_after t c ≡ t
tables_kept o t (CommandCall (DirectoryFamily c)) e = absurd (true≢false (sym e))
tables_kept o t (CommandCall (ConsentFamily (Offer x y))) e = absurd (true≢false (sym e))
tables_kept o t (CommandCall (ConsentFamily (Retract x y))) e = absurd (true≢false (sym e))
tables_kept o t (CommandCall (ConsentFamily (Give w x y))) e = refl
tables_kept o t (CommandCall (ConsentFamily (Withdraw w x y))) e = refl
tables_kept o t (CommandCall (SessionFamily (Open s u))) e = absurd (true≢false (sym e))
tables_kept o t (CommandCall (SessionFamily (End s))) e = absurd (true≢false (sym e))
tables_kept o t (CommandCall (SessionFamily (ActivateRole s r))) e = absurd (true≢false (sym e))
tables_kept o t (CommandCall (SessionFamily (DropRole s r))) e = absurd (true≢false (sym e))
tables_kept o t (CommandCall (SessionFamily (AccessPlain s p b))) e = refl
tables_kept o t (CommandCall (SessionFamily (UseCommand s p b q))) e = refl
tables_kept o t (CommandCall (SessionFamily (Look s p b q))) e = refl
tables_kept o t (CommandCall (QuestionFamily c)) e = refl
tables_kept o t (Draw u) e = refl
tables_kept o t (Enter w n) e = refl
tables_kept o t (HandBack w n) e = refl
tables_kept o t (Ledger w) e = refl

whichever : {S : Type 0} (n : ℕ) (x y z : S) → x ≡ z → y ≡ z → if_accepted n x y ≡ z
whichever zero x y z a b = a
whichever (suc n) x y z a b = b

left_alone : (b : Bool) (x : Bearing) (before : Bool) → x ≡ leaves → latest (cond b x leaves) before ≡ before
left_alone true x before e = ap (λ y. latest y before) e
left_alone false x before e = refl

pub only_own : (k : Bounds) (o : ℕ) (s : State) (c : Call) → s.register.limit ≡ k.limit → concerns c s.tables o ≡ true → Alike o (next k c s) s
only_own k o s c limit e =
    let n = number k (view s) c in
    record {
      tables = whichever n _ _ s.tables (tables_kept o s.tables c e) refl;
      limit = limit_after k s c limit ∙ sym limit;
      consents = λ j ne. ap (λ f. f j) (words_after k s c limit) ∙ fun_ext (λ q. fun_ext (λ d. left_alone (is_accepted n) (bears c j q d) (s.register.entries j q d) (bears_nothing o s.tables j ne c e q d)));
      ledgers = λ j ne. after_by_row s.tables c n s.ledgers j ∙ whichever n _ _ (s.ledgers j) (row_kept o s.tables j ne c e (s.ledgers j)) (refused_by_row o s.tables j ne c e n (s.ledgers j));
    }

-- ---- a call that does not concern the owner does the same to both

number_of : (n : ℕ) (v : Values) (l : ℕ) → (if_accepted n (accepted v) (refused n l)).number ≡ n
number_of zero v l = refl
number_of (suc n) v l = refl

same_number : (k : Bounds) (v w : View) (c : Call) → answer k v c ≡ answer k w c → number k v c ≡ number k w c
same_number k v w c e =
    sym (number_of (number k v c) (values v c) (layer v.tables c))
    ∙ ap (λ a. a.number) e
    ∙ number_of (number k w c) (values w c) (layer w.tables c)

pub both_alike : (k : Bounds) (o : ℕ) (s t : State) (c : Call) → s.register.limit ≡ k.limit → t.register.limit ≡ k.limit → concerns c s.tables o ≡ false → Alike o s t → Alike o (next k c s) (next k c t)
both_alike k o s t c ls lt e a =
    let n = same_number k (view s) (view t) c (answer_alike k o (view s) (view t) (alike_views o s t a) c e) in
    record {
      tables = λ i. if_accepted (n i) (tables_after (a.tables i) c) (a.tables i);
      limit = limit_after k s c ls ∙ sym (limit_after k t c lt);
      consents = λ j ne.
          ap (λ f. f j) (words_after k s c ls)
          ∙ (λ i. λ q d. latest (cond (is_accepted (n i)) (bears c j q d) leaves) (a.consents j ne i q d))
          ∙ sym (ap (λ f. f j) (words_after k t c lt));
      ledgers = λ j ne.
          after_by_row s.tables c (number k (view s) c) s.ledgers j
          ∙ (λ i. if_accepted (n i) (row_after (a.tables i) c j (a.ledgers j ne i)) (row_refused c (n i) j (a.ledgers j ne i)))
          ∙ sym (after_by_row t.tables c (number k (view t) c) t.ledgers j);
    }

-- ---- histories

speaks_concerns : (c : Call) (t : Tables) (o : ℕ) → speaks c o ≡ true → concerns c t o ≡ true
speaks_concerns (CommandCall (DirectoryFamily c)) t o e = absurd (true≢false (sym e))
speaks_concerns (CommandCall (ConsentFamily c)) t o e = e
speaks_concerns (CommandCall (SessionFamily c)) t o e = absurd (true≢false (sym e))
speaks_concerns (CommandCall (QuestionFamily c)) t o e = absurd (true≢false (sym e))
speaks_concerns (Draw u) t o e = absurd (true≢false (sym e))
speaks_concerns (Enter w n) t o e = absurd (true≢false (sym e))
speaks_concerns (HandBack w n) t o e = absurd (true≢false (sym e))
speaks_concerns (Ledger w) t o e = absurd (true≢false (sym e))

module _ (k : Bounds) (o : ℕ) where
  -- a call that is left in both
  next_alike : (c : Call) (s t : State) → s.register.limit ≡ k.limit → t.register.limit ≡ k.limit → Alike o s t → Alike o (next k c s) (next k c t)
  next_alike c s t ls lt a =
      elim (cases_Bool (concerns c s.tables o)) [
        | inl e ↦
            alike_on o (next k c s) s (next k c t) (only_own k o s c ls e)
            (alike_on o s t (next k c t) a (alike_back o (next k c t) t (only_own k o t c lt (ap (λ x. concerns c x o) (sym a.tables) ∙ e))))
        | inr e ↦ both_alike k o s t c ls lt e a
      ]

  heard : Call → State → Option Told
  heard c s = cond (concerns c s.tables o) none (some (answer k (view s) c))

  heard_alike : (c : Call) (s t : State) → Alike o s t → heard c s ≡ heard c t
  unfolding heard
  heard_alike c s t a =
      elim (cases_Bool (concerns c s.tables o)) [
        | inl e ↦ let f : concerns c t.tables o ≡ true = ap (λ x. concerns c x o) (sym a.tables) ∙ e in simp (e, f)
        | inr e ↦
            let f : concerns c t.tables o ≡ false = ap (λ x. concerns c x o) (sym a.tables) ∙ e in
            simp (e, f) (ap some (answer_alike k o (view s) (view t) (alike_views o s t a) c e))
      ]

  -- a history and the same without the owner's gives and withdrawals
  struck_alike : (calls : List Call) (s t : State) → s.register.limit ≡ k.limit → t.register.limit ≡ k.limit → Alike o s t
      → (heard_by o k s calls ≡ heard_by o k t (struck_out o calls)) × Alike o (state_after k s calls) (state_after k t (struck_out o calls))
  unfolding heard
  struck_alike [] s t ls lt a = (refl, a)
  struck_alike (c ∷ cs) s t ls lt a =
      elim (cases_Bool (speaks c o)) [
        | inl e ↦
            let own = alike_on o (next k c s) s t (only_own k o s c ls (speaks_concerns c s.tables o e)) a in
            let rest = struck_alike cs (next k c s) t (limit_after k s c ls) lt own in
            (simp e rest.0, simp e rest.1)
        | inr e ↦
            let rest = struck_alike cs (next k c s) (next k c t) (limit_after k s c ls) (limit_after k t c lt) (next_alike c s t ls lt a) in
            (simp e (λ i. heard_alike c s t a i ∷ rest.0 i), simp e rest.1)
      ]

pub unheard : (k : Bounds) (o : ℕ) (calls others : List Call) → struck_out o calls ≡ struck_out o others → Unheard k o calls others
unheard k o calls others same =
    let bare = bare_state k in
    let first = struck_alike k o calls bare bare refl refl (alike_same o bare) in
    let second = struck_alike k o others bare bare refl refl (alike_same o bare) in
    record {
      answers = first.0 ∙ ap (heard_by o k bare) same ∙ sym second.0;
      ends =
          alike_on o _ _ _ first.1
          (subst (λ cs. Alike o (state_after k bare cs) (state_of k others)) (sym same) (alike_back o _ _ second.1));
    }
