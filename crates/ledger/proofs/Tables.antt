-- One ledger of the table is read or changed, or each is.
use Rattle.std.proofs.Common.{◌≡◌, ℕ, zero, suc, ◌+◌, ◌<◌, true, ltb, List, [], ◌∷◌, ◌++◌, map, length, get_or, take, drop, set, sym, refl, ap, ◌∙◌, arith}
use mathlib.Core.Path.{fun_ext}
use Rattle.std.proofs.lemmas.List.Edits.{map_over_more}
use Rattle.std.proofs.lemmas.List.{get_or-map, map-set, length-map}
use Rattle.std.proofs.lemmas.Bool.{lt-ltb}
use Rattle.vocabulary.specs.Questions.{Question, first_no, if_accepted}
use Rattle.bits.specs.Tables.{put}
use Rattle.vocabulary.proofs.Lists.{put_set}
use Rattle.vocabulary.proofs.Puts.{put_here, put_accepted}
use Rattle.ledger.specs.Answers.{Answer, answered}
use Rattle.ledger.specs.States.{LedgerState, state_of, empty_ledger, Sound}
use Rattle.ledger.specs.Table.{Table, table_of, known}
use Rattle.ledger.specs.declared.ledger.Ledger.{Ledger}

abbrev whole : List LedgerState → Table
whole ss o = get_or ss o empty_ledger

-- an owner in range is asked on
known_first : (o : ℕ) (asked : List Question) → o < 128 → first_no asked ≡ first_no (known o ∷ asked)
known_first o asked lt = let e : ltb o 128 ≡ true = lt-ltb o 128 lt in simp e

-- the ledger of the owner o is `was`
module _ (ls : List Ledger) (o : ℕ) (was : Ledger) (in_all : o < length ls) where
  pub table_at : state_of (get_or ls o was) ≡ table_of ls o
  table_at = sym (get_or-map state_of ls o was empty_ledger in_all)

  pub table_put : (l : Ledger) → table_of (set ls o l) ≡ put o (state_of l) (table_of ls)
  table_put l =
      ap whole (map-set state_of ls o l)
      ∙ put_set (λ s. s) (map state_of ls) o (state_of l) empty_ledger (omega (arith, length-map ls state_of))

  pub table_new : (l : Ledger) → table_of (set ls o l) o ≡ state_of l
  table_new l = ap (λ (f : Table). f o) (table_put l) ∙ put_here o (table_of ls) (state_of l)

  -- what the ledger answers, the table answers for an owner in range
  module _ (lt : o < 128) (asked : LedgerState → List Question) where
    pub table_answer : (a : Answer) (values : LedgerState → List ℕ) (none : List ℕ) → a ≡ answered (asked (state_of (get_or ls o was))) (values (state_of (get_or ls o was))) none → a ≡ answered (known o ∷ asked (table_of ls o)) (values (table_of ls o)) none
    table_answer a values none e =
        e
        ∙ ap (λ (s : LedgerState). answered (asked s) (values s) none) table_at
        ∙ ap (λ (n : ℕ). record { number = n; values = if_accepted n (values (table_of ls o)) none }) (known_first o (asked (table_of ls o)) lt)

    pub table_left : (l : Ledger) (new : LedgerState → LedgerState) → state_of l ≡ if_accepted (first_no (asked (state_of (get_or ls o was)))) (new (state_of (get_or ls o was))) (state_of (get_or ls o was)) → table_of (set ls o l) ≡ if_accepted (first_no (known o ∷ asked (table_of ls o))) (put o (new (table_of ls o)) (table_of ls)) (table_of ls)
    table_left l new e =
        table_put l
        ∙ ap (λ (s : LedgerState). put o s (table_of ls)) (e ∙ ap (λ (s : LedgerState). if_accepted (first_no (asked s)) (new s) s) table_at)
        ∙ put_accepted o (table_of ls) (first_no (asked (table_of ls o))) (new (table_of ls o))
        ∙ ap (λ (n : ℕ). if_accepted n (put o (new (table_of ls o)) (table_of ls)) (table_of ls)) (known_first o (asked (table_of ls o)) lt)

-- a walk over the table has changed the ledgers before i by f, and none from i on
pub table_again : (f : LedgerState → LedgerState) (ss : List LedgerState) (ls : List Ledger) (i : ℕ) (was l : Ledger) → i < length ls → i < length ss → map state_of ls ≡ map f (take i ss) ++ drop i ss → state_of l ≡ f (state_of (get_or ls i was)) → map state_of (set ls i l) ≡ map f (take (i + 1) ss) ++ drop (i + 1) ss
table_again f ss ls i was l lt lts so_far e =
    map-set state_of ls i l
    ∙ ap (set (map state_of ls) i) e
    ∙ map_over_more f ss (map state_of ls) i (state_of (get_or ls i was)) lts so_far (sym (get_or-map state_of ls i was (state_of (get_or ls i was)) lt))

-- at its end it has changed every ledger, and an empty one stands for those past the table
pub table_each : (f : LedgerState → LedgerState) (ss ts : List LedgerState) → f empty_ledger ≡ empty_ledger → ts ≡ map f ss → ◌≡◌ {A = Table} (λ o. get_or ts o empty_ledger) (λ o. f (get_or ss o empty_ledger))
table_each f ss ts e h = ap whole h ∙ fun_ext (λ o. at ss o)
  where
    at : (ss : List LedgerState) (o : ℕ) → get_or (map f ss) o empty_ledger ≡ f (get_or ss o empty_ledger)
    at [] o = sym e
    at (s ∷ ss) zero = refl
    at (s ∷ ss) (suc o) = at ss o

pub table_sound : (ls : List Ledger) (o : ℕ) → Sound (table_of ls o)
table_sound [] o = record { eight = refl; balance = refl; within = refl; apart = refl }
table_sound (l ∷ ls) zero = record { eight = l.eight; balance = l.balance; within = l.within; apart = l.apart }
table_sound (l ∷ ls) (suc o) = table_sound ls o
