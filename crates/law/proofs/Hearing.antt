-- Two states that are alike but for one owner answer alike whatever does not concern that owner.
use Rattle.std.proofs.Common.{◌≡◌, ℕ, zero, suc, ◌+◌, Bool, true, false, cond, ◌&&◌, eqb, ltb, sym, refl, ap, ◌∙◌, arith}
use Rattle.std.proofs.lemmas.Bool.{eqb-false, eq-eqb, both_ways}
use Rattle.vocabulary.specs.Questions.{if_accepted}
use Rattle.vocabulary.specs.Tables.{some_below}
use Rattle.register.specs.Meaning.{Consents, owned}
use Rattle.ledger.specs.declared.place.Use.{Use}
use Rattle.calls.specs.declared.command.Command.TheVariants.{Directory as DirectoryFamily, Consent as ConsentFamily, Session as SessionFamily, Question as QuestionFamily}
use Rattle.calls.specs.declared.command.Consent.TheVariants.{Offer, Retract, Give, Withdraw}
use Rattle.calls.specs.declared.command.Session.{Session}
use Rattle.calls.specs.declared.command.Session.TheVariants.{Open, End, ActivateRole, DropRole, AccessPlain, Use as UseCommand, Look}
use Rattle.calls.specs.declared.command.Question.TheVariants.{Authorised, Consented}
use Rattle.rules.specs.Told.{Values, no_values, permit_values, accepted, refused}
use Rattle.rules.specs.State.{ObjectState, absent, plain, personal, exists, is_personal, belongs_to, owner_of, Bounds}
use Rattle.rules.specs.Views.{LedgerView, View}
use Rattle.rules.specs.Coverage.{agrees}
use Rattle.rules.specs.Numbers.{use_of, draw_number}
use Rattle.rules.specs.Rules.{answer, concerns}
use Rattle.rules.specs.declared.call.Call.{Call}
use Rattle.rules.specs.declared.call.Call.TheVariants.{Command as CommandCall, Draw, Enter, HandBack, Ledger}

-- views that are alike but for one owner
pub record AlikeViews (o : ℕ) (v w : View) : Type 0 where
  pub tables : v.tables ≡ w.tables
  pub word : (k : ℕ) → (k ≡ o → ⊥) → v.word k ≡ w.word k
  pub ledger : (k : ℕ) → (k ≡ o → ⊥) → v.ledger k ≡ w.ledger k

-- a view in which every owner has the words and the ledger of the owner w
blind : ℕ → View → View
blind w v = record { tables = v.tables; word = λ _. v.word w; ledger = λ _. v.ledger w }

blind_alike : (o w : ℕ) (v x : View) → AlikeViews o v x → (w ≡ o → ⊥) → blind w v ≡ blind w x
unfolding blind
blind_alike o w v x alike ne = λ i. record { tables = alike.tables i; word = λ _. alike.word w ne i; ledger = λ _. alike.ledger w ne i }

-- ---- a draw, by the state of its object

module _ (o : ℕ) (a c e : Bool) (q : ℕ) (l m : Consents) (f g : ℕ → LedgerView) (words : (k : ℕ) → (k ≡ o → ⊥) → l k ≡ m k) (ledgers : (k : ℕ) → (k ≡ o → ⊥) → f k ≡ g k) where
  -- the number of a draw, and its answer with what it carries
  abbrev chain : ObjectState → Consents → (ℕ → LedgerView) → ℕ
  chain x word ledger =
      cond a (cond (exists x) (cond c (cond (is_personal x) (cond e (cond (agrees word (owner_of x) q x) (cond (ltb (ledger (owner_of x)).still_open 8) (cond (ltb (ledger (owner_of x)).issued 65535) 0 17) 16) 15) 14) 8) 6) 4) 1

  not_own : (w : ℕ) (types : ℕ → Bool) → belongs_to o (personal w types) ≡ false → w ≡ o → ⊥
  not_own w types none here = both_ways (eqb w o) none (eq-eqb w o here)

  same_agrees : (w : ℕ) (types : ℕ → Bool) → (w ≡ o → ⊥) → agrees l w q (personal w types) ≡ agrees m w q (personal w types)
  unfolding agrees
  same_agrees w types ne = ap (λ r. some_below 16 (λ t. types t && r q t)) (words w ne)

  number_alike : (x : ObjectState) → belongs_to o x ≡ false → chain x l f ≡ chain x m g
  number_alike absent none = refl
  number_alike plain none = refl
  number_alike (personal w types) none =
      let ne = not_own w types none in
      λ i. cond a (cond c (cond e (cond (same_agrees w types ne i) (cond (ltb (ledgers w ne i).still_open 8) (cond (ltb (ledgers w ne i).issued 65535) 0 17) 16) 15) 14) 6) 1

  -- a draw that is accepted carries the same permit
  permit_alike : (x : ObjectState) → belongs_to o x ≡ false → chain x l f ≡ 0 → permit_values (owner_of x) ((f (owner_of x)).issued + 1) ≡ permit_values (owner_of x) ((g (owner_of x)).issued + 1)
  permit_alike absent none yes' = absurd (refuses a yes')
    where
      refuses : (a : Bool) → ◌≡◌ {A = ℕ} (cond a 4 1) 0 → ⊥
      refuses true e = omega arith
      refuses false e = omega arith
  permit_alike plain none yes' = absurd (refuses a c yes')
    where
      refuses : (a c : Bool) → ◌≡◌ {A = ℕ} (cond a (cond c 8 6) 1) 0 → ⊥
      refuses true true e = omega arith
      refuses true false e = omega arith
      refuses false c e = omega arith
  permit_alike (personal w types) none yes' = ap (λ x. permit_values w (x.issued + 1)) (ledgers w (not_own w types none))

-- equal numbers, and equal values where the call is accepted, are equal answers
same_told : (n m layer : ℕ) (v w : Values) → n ≡ m → (n ≡ 0 → v ≡ w) → if_accepted n (accepted v) (refused n layer) ≡ if_accepted m (accepted w) (refused m layer)
same_told n m layer v w e values = same n values ∙ ap (λ j. if_accepted j (accepted w) (refused j layer)) e
  where
    same : (n : ℕ) → (n ≡ 0 → v ≡ w) → if_accepted n (accepted v) (refused n layer) ≡ if_accepted n (accepted w) (refused n layer)
    same zero values = ap accepted (values refl)
    same (suc n) values = refl

-- ---- every call

module _ (k : Bounds) (o : ℕ) (v w : View) (alike : AlikeViews o v w) where
  -- the second view with the tables of the first
  middle : View
  middle = record { tables = v.tables; word = w.word; ledger = w.ledger }

  middle_is : middle ≡ w
  unfolding middle
  middle_is = λ i. record { tables = alike.tables i; word = w.word; ledger = w.ledger }

  -- a call of a named owner looks at that owner's words and ledger
  by_name : (c : Call) (j : ℕ) → answer k v c ≡ answer k (blind j v) c → answer k (blind j w) c ≡ answer k w c → (eqb j o ≡ false) → answer k v c ≡ answer k w c
  by_name c j left right ne = left ∙ ap (λ x. answer k x c) (blind_alike o j v w alike (eqb-false j o ne)) ∙ right

  draw_alike : (u : Use) → belongs_to o (v.tables.object u.object) ≡ false → answer k v (Draw u) ≡ answer k middle (Draw u)
  unfolding middle
  draw_alike u none =
      let x = v.tables.object u.object in
      same_told _ _ 2 _ _
      (number_alike o _ _ _ u.purpose v.word w.word v.ledger w.ledger alike.word alike.ledger x none)
      (permit_alike o _ _ _ u.purpose v.word w.word v.ledger w.ledger alike.word alike.ledger x none)

  use_alike : (c : Session) (u : Use) → belongs_to o (v.tables.object u.object) ≡ false → (answer k v (CommandCall (SessionFamily c)) ≡ if_accepted (draw_number v u) (accepted no_values) (refused (draw_number v u) 2)) → (answer k middle (CommandCall (SessionFamily c)) ≡ if_accepted (draw_number middle u) (accepted no_values) (refused (draw_number middle u) 2)) → answer k v (CommandCall (SessionFamily c)) ≡ answer k middle (CommandCall (SessionFamily c))
  unfolding middle
  use_alike c u none left right =
      let x = v.tables.object u.object in
      left
      ∙ same_told _ _ 2 no_values no_values
      (number_alike o _ _ _ u.purpose v.word w.word v.ledger w.ledger alike.word alike.ledger x none)
      (λ _. refl)
      ∙ sym right

  to_second : (c : Call) → answer k v c ≡ answer k middle c → answer k v c ≡ answer k w c
  to_second c e = e ∙ ap (λ x. answer k x c) middle_is

  pub answer_alike : (c : Call) → concerns c v.tables o ≡ false → answer k v c ≡ answer k w c
  unfolding middle blind owned agrees
  answer_alike (CommandCall (DirectoryFamily c)) e = to_second (CommandCall (DirectoryFamily c)) refl
  answer_alike (CommandCall (ConsentFamily (Offer q d))) e = to_second (CommandCall (ConsentFamily (Offer q d))) refl
  answer_alike (CommandCall (ConsentFamily (Retract q d))) e = to_second (CommandCall (ConsentFamily (Retract q d))) refl
  answer_alike (CommandCall (ConsentFamily (Give j q d))) e = by_name (CommandCall (ConsentFamily (Give j q d))) j refl refl e
  answer_alike (CommandCall (ConsentFamily (Withdraw j q d))) e = by_name (CommandCall (ConsentFamily (Withdraw j q d))) j refl refl e
  answer_alike (CommandCall (SessionFamily (Open s u))) e = to_second (CommandCall (SessionFamily (Open s u))) refl
  answer_alike (CommandCall (SessionFamily (End s))) e = to_second (CommandCall (SessionFamily (End s))) refl
  answer_alike (CommandCall (SessionFamily (ActivateRole s r))) e = to_second (CommandCall (SessionFamily (ActivateRole s r))) refl
  answer_alike (CommandCall (SessionFamily (DropRole s r))) e = to_second (CommandCall (SessionFamily (DropRole s r))) refl
  answer_alike (CommandCall (SessionFamily (AccessPlain s p b))) e = to_second (CommandCall (SessionFamily (AccessPlain s p b))) refl
  answer_alike (CommandCall (SessionFamily (UseCommand s p b q))) e = to_second (CommandCall (SessionFamily (UseCommand s p b q))) (use_alike (UseCommand s p b q) (use_of s p b q) e refl refl)
  answer_alike (CommandCall (SessionFamily (Look s p b q))) e = to_second (CommandCall (SessionFamily (Look s p b q))) (use_alike (Look s p b q) (use_of s p b q) e refl refl)
  answer_alike (CommandCall (QuestionFamily (Authorised u r))) e = to_second (CommandCall (QuestionFamily (Authorised u r))) refl
  answer_alike (CommandCall (QuestionFamily (Consented j q d))) e = by_name (CommandCall (QuestionFamily (Consented j q d))) j refl refl e
  answer_alike (Draw u) e = to_second (Draw u) (draw_alike u e)
  answer_alike (Enter j n) e = by_name (Enter j n) j refl refl e
  answer_alike (HandBack j n) e = by_name (HandBack j n) j refl refl e
  answer_alike (Ledger j) e = by_name (Ledger j) j refl refl e
