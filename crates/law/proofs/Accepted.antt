-- What the number of an answer tells of the questions.
use Rattle.std.proofs.Common.{◌≡◌, ℕ, zero, suc, Bool, true, false, cond, not, ltb, leb, refl, arith, lit<}
use Rattle.vocabulary.specs.Questions.{if_accepted}
use Rattle.vocabulary.proofs.Questions.{passed}
use Rattle.register.specs.Meaning.{Register, held, counted, owned, in_range}
use Rattle.register.specs.Answers.{give_answer, withdraw_answer}
use Rattle.directory.specs.State.{is_open}
use Rattle.ledger.specs.declared.place.Use.{Use}
use Rattle.rules.specs.State.{exists, is_personal, owner_of}
use Rattle.rules.specs.Views.{View}
use Rattle.rules.specs.Coverage.{holds_private, agrees}
use Rattle.rules.specs.Numbers.{use_in_range, draw_number}

-- every question of a draw was answered yes
pub record DrawPassed (v : View) (u : Use) : Type 0 where
  pub range : use_in_range u ≡ true
  pub there : exists (v.tables.object u.object) ≡ true
  pub session : is_open (v.tables.directory.session u.session) ≡ true
  pub sort : is_personal (v.tables.object u.object) ≡ true
  pub granted : holds_private v.tables u ≡ true
  pub agreed : agrees v.word (owner_of (v.tables.object u.object)) u.purpose (v.tables.object u.object) ≡ true
  pub few_open : ltb (v.ledger (owner_of (v.tables.object u.object))).still_open 8 ≡ true
  pub few_issued : ltb (v.ledger (owner_of (v.tables.object u.object))).issued 65535 ≡ true

-- the chain of a draw's eight questions
eight : (a b c d e f g h : Bool) → ◌≡◌ {A = ℕ} (cond a (cond b (cond c (cond d (cond e (cond f (cond g (cond h 0 17) 16) 15) 14) 8) 6) 4) 1) 0
    → (a ≡ true) × (b ≡ true) × (c ≡ true) × (d ≡ true) × (e ≡ true) × (f ≡ true) × (g ≡ true) × (h ≡ true)
eight a b c d e f g h q =
    let p1 = passed a 1 (cond b (cond c (cond d (cond e (cond f (cond g (cond h 0 17) 16) 15) 14) 8) 6) 4) (lit< tt) q in
    let p2 = passed b 4 (cond c (cond d (cond e (cond f (cond g (cond h 0 17) 16) 15) 14) 8) 6) (lit< tt) p1.1 in
    let p3 = passed c 6 (cond d (cond e (cond f (cond g (cond h 0 17) 16) 15) 14) 8) (lit< tt) p2.1 in
    let p4 = passed d 8 (cond e (cond f (cond g (cond h 0 17) 16) 15) 14) (lit< tt) p3.1 in
    let p5 = passed e 14 (cond f (cond g (cond h 0 17) 16) 15) (lit< tt) p4.1 in
    let p6 = passed f 15 (cond g (cond h 0 17) 16) (lit< tt) p5.1 in
    let p7 = passed g 16 (cond h 0 17) (lit< tt) p6.1 in
    let p8 = passed h 17 0 (lit< tt) p7.1 in
    (p1.0, p2.0, p3.0, p4.0, p5.0, p6.0, p7.0, p8.0)

pub draw_passed : (v : View) (u : Use) → draw_number v u ≡ 0 → DrawPassed v u
draw_passed v u e =
    let p = eight _ _ _ _ _ _ _ _ e in
    record { range = p.0; there = p.1; session = p.2; sort = p.3; granted = p.4; agreed = p.5; few_open = p.6; few_issued = p.7 }

pub draw_passes : (v : View) (u : Use) → DrawPassed v u → draw_number v u ≡ 0
draw_passes v u p =
    let a = p.range in let b = p.there in let c = p.session in let d = p.sort in let e = p.granted in let f = p.agreed in let g = p.few_open in let h = p.few_issued in
    simp (a, b, c, d, e, f, g, h)

-- the first part of two was accepted, and then the second
pub both_accepted : (n m : ℕ) → if_accepted n m n ≡ 0 → (n ≡ 0) × (m ≡ 0)
both_accepted zero m e = (refl, e)
both_accepted (suc n) m e = absurd (omega arith)

-- a give that the register accepts
pub give_passed : (m : Register) (o q t : ℕ) → give_answer m o q t ≡ 0 → (in_range o q t ≡ true) × (held m o q t ≡ false) × (leb m.limit (owned (counted m) o) ≡ false)
give_passed m o q t e = three (in_range o q t) (held m o q t) (leb m.limit (owned (counted m) o)) e
  where
    three : (a b c : Bool) → ◌≡◌ {A = ℕ} (cond (not a) 1 (cond b 9 (cond c 13 0))) 0 → (a ≡ true) × (b ≡ false) × (c ≡ false)
    three true false false e = (refl, refl, refl)
    three true false true e = absurd (omega arith)
    three true true c e = absurd (omega arith)
    three false b c e = absurd (omega arith)

pub withdraw_passed : (m : Register) (o q t : ℕ) → withdraw_answer m o q t ≡ 0 → (in_range o q t ≡ true) × (counted m o q t ≡ true)
withdraw_passed m o q t e = two (in_range o q t) (counted m o q t) e
  where
    two : (a b : Bool) → ◌≡◌ {A = ℕ} (cond (not a) 1 (cond b 0 10)) 0 → (a ≡ true) × (b ≡ true)
    two true true e = (refl, refl)
    two true false e = absurd (omega arith)
    two false b e = absurd (omega arith)
