-- A permit that is drawn and closed at once, among the ledgers of all.
use Rattle.std.proofs.Common.{◌≡◌, ℕ, ◌+◌, ◌<◌, Bool, true, false, cond, ltb, is_some, Option, Result, sym, refl, ap, ◌∙◌, arith}
use Rattle.std.proofs.lemmas.Bool.{ltb-true}
use Rattle.vocabulary.specs.Questions.{first_no, if_accepted}
use Rattle.bits.specs.Tables.{put}
use Rattle.vocabulary.proofs.Puts.{put_here, put_twice}
use Rattle.ledger.specs.Answers.{Answer, done_answer, number_of}
use Rattle.ledger.specs.Places.{usage_in, permits_of}
use Rattle.ledger.specs.States.{LedgerState, opens, drawn, closed, at_once, Sound}
use Rattle.ledger.specs.Table.{Table, draw_asked, draw_left, close_asked, close_answer, close_left}
use Rattle.ledger.specs.declared.fault.LedgerFault.{LedgerFault}
use Rattle.ledger.specs.declared.place.Closing.{Closing}
use Rattle.ledger.specs.declared.place.Use.{Use}
use Rattle.ledger.specs.declared.place.Which.TheVariants.{Serial}
use Rattle.ledger.proofs.Once.{drawn_usage, closed_at_once}
use Rattle.ledger_laws.specs.Events.{once_left}

-- an accepted draw passed its questions
passed : (known few more : Bool) → ◌≡◌ {A = ℕ} 0 (cond known (cond few (cond more 0 17) 16) 1) → (known ≡ true) × (few ≡ true)
passed true true more e = (refl, refl)
passed true false more e = absurd (omega arith)
passed false few more e = absurd (omega arith)

-- the draw of the owner o left g, and its permit is the next one
module _ (c : Closing) (o : ℕ) (u : Use) (f g : Table) (sound : Sound (f o)) (accepted : 0 ≡ first_no (draw_asked o f)) (left : g ≡ draw_left o u f) (k n : ℕ) (owner : k ≡ o) (serial : n ≡ (f o).issued + 1) where
  within_range : (ltb o 128 ≡ true) × (ltb (opens (f o)) 8 ≡ true)
  within_range = passed (ltb o 128) (ltb (opens (f o)) 8) (ltb (f o).issued 65535) accepted

  few : opens (f o) < 8
  few = ltb-true (opens (f o)) 8 within_range.1

  drew : g ≡ put o (drawn u (f o)) f
  drew = left ∙ ap (λ (a : ℕ). if_accepted a (put o (drawn u (f o)) f) f) (sym accepted)

  here : g o ≡ drawn u (f o)
  here = ap (λ (h : Table). h o) drew ∙ put_here o f (drawn u (f o))

  is_open : is_some (usage_in (g o).places ((f o).issued + 1)) ≡ true
  is_open = ap (λ (s : LedgerState). is_some (usage_in s.places ((f o).issued + 1))) here ∙ ap (λ (p : Option Use). is_some p) (drawn_usage u (f o) sound few)

  none_refuse : first_no (close_asked o ((f o).issued + 1) g) ≡ 0
  none_refuse = let a = within_range.0 in simp (a, is_open)

  pub once_answer : (r : Result (Unit {0}) LedgerFault) → done_answer r ≡ close_answer k n g → number_of r ≡ first_no (draw_asked o f)
  once_answer r e =
      ap (λ (a : Answer). a.number) e
      ∙ (λ i. first_no (close_asked (owner i) (serial i) g))
      ∙ none_refuse
      ∙ accepted

  pub left_at_once : (h : Table) → h ≡ close_left c k n g → h ≡ once_left c o f
  left_at_once h e =
      e
      ∙ (λ i. close_left c (owner i) (serial i) g)
      ∙ ap (λ (a : ℕ). if_accepted a (put o (closed c (permits_of (Serial ((f o).issued + 1))) (g o)) g) g) none_refuse
      ∙ ap (λ (s : LedgerState). put o (closed c (permits_of (Serial ((f o).issued + 1))) s) g) here
      ∙ ap (λ (s : LedgerState). put o s g) (closed_at_once u (f o) sound few c)
      ∙ ap (put o (at_once c (f o))) drew
      ∙ put_twice o f (drawn u (f o)) (at_once c (f o))
      ∙ ap (λ (a : ℕ). if_accepted a (put o (at_once c (f o)) f) f) accepted
