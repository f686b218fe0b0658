-- A consent that is given and then withdrawn leaves the register as it was.
use Rattle.std.proofs.Common.{◌≡◌, ℕ, Bool, true, false, cond, not, eqb, leb, sym, refl, ap, ◌∙◌, arith}
use mathlib.Core.Path.{fun_ext}
use Rattle.std.proofs.lemmas.Bool.{cond-true, cond-false, and_parts, and_from, eqb-true, eq-eqb}
use Rattle.register.specs.Meaning.{Consents, Register, held, counted, owned, in_range, same, put_one}
use Rattle.register.specs.Answers.{give_answer, after_give, withdraw_answer, after_withdraw}

-- the three questions of a give that was accepted were all answered no
accepted : (x y z : Bool) → ◌≡◌ {A = ℕ} (cond x 1 (cond y 9 (cond z 13 0))) 0 → (x ≡ false) × ((y ≡ false) × (z ≡ false))
accepted true y z e = absurd (omega (arith, e))
accepted false true z e = absurd (omega (arith, e))
accepted false false true e = absurd (omega (arith, e))
accepted false false false e = (refl, (refl, refl))

put_there : (o q t : ℕ) (x : Bool) (f : Consents) → put_one o q t x f o q t ≡ x
unfolding put_one
put_there o q t x f = cond-true _ _ _ (and_from _ _ (eq-eqb o o refl) (and_from _ _ (eq-eqb q q refl) (eq-eqb t t refl)))

twice : (x v : Bool) → (x ≡ true → v ≡ false) → cond x false (cond x true v) ≡ v
twice true v e = sym (e refl)
twice false v e = refl

put_back : (o q t : ℕ) (f : Consents) → f o q t ≡ false → put_one o q t false (put_one o q t true f) ≡ f
unfolding put_one
put_back o q t f absent =
    fun_ext (λ a. fun_ext (λ b. fun_ext (λ c. twice (same o q t a b c) (f a b c) (λ e.
    let first = and_parts (eqb a o) _ e in
    let rest = and_parts (eqb b q) _ first.1 in
    (λ i. f (eqb-true a o first.0 i) (eqb-true b q rest.0 i) (eqb-true c t rest.1 i)) ∙ absent))))

module _ (m : Register) (o q t : ℕ) (given : give_answer m o q t ≡ 0) where
  questions : (not (in_range o q t) ≡ false) × ((held m o q t ≡ false) × (leb m.limit (owned (counted m) o) ≡ false))
  questions = accepted (not (in_range o q t)) (held m o q t) (leb m.limit (owned (counted m) o)) given

  given_state : after_give m o q t ≡ record { limit = m.limit; entries = put_one o q t true m.entries }
  given_state = cond-false _ _ _ questions.0 ∙ cond-false _ _ _ questions.1.0 ∙ cond-false _ _ _ questions.1.1

  there : counted (after_give m o q t) o q t ≡ true
  there = ap (λ n. counted n o q t) given_state ∙ put_there o q t true m.entries

  pub withdrawn : withdraw_answer (after_give m o q t) o q t ≡ 0
  withdrawn = cond-false _ _ _ questions.0 ∙ cond-true _ _ _ there

  pub taken_back : after_withdraw (after_give m o q t) o q t ≡ m
  taken_back =
      cond-false _ _ _ questions.0
      ∙ cond-true _ _ _ there
      ∙ ap (λ n. record { limit = n.limit; entries = put_one o q t false n.entries }) given_state
      ∙ ap (λ f. record { limit = m.limit; entries = f }) (put_back o q t m.entries questions.1.0)
