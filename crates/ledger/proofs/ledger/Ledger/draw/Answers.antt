use Rattle.std.proofs.Common.{◌≡◌, ℕ, ◌+◌, true, eqb, ltb, List, length, count_by, Option, refl, ap, ◌∙◌, inr, arith}
use Rattle.std.proofs.lemmas.Bool.{lt-ltb, eq-eqb}
use Rattle.ledger.specs.Places.{is_open, usage_in, inside, distinct}
use Rattle.ledger.specs.declared.place.Place.{Place}
use Rattle.ledger.specs.declared.place.Use.{Use}
use Rattle.ledger.proofs.Draws.{Room, absent, placed_length, placed_opens, placed_usage, placed_inside, placed_distinct}
use Rattle.ledger.proofs.ledger.Ledger.draw.Goals as goal

pub invariant_of-self : goal.invariant_of-self
invariant_of-self c =
    let l = c.args.self.now in
    let u = c.args.usage in
    let e = c.draw.ensures in
    let room : Room l.places = omega arith in
    record {
      eight = ap length e ∙ placed_length (l.issued + 1) u l.places ∙ l.eight;
      balance = omega (arith, ap (count_by is_open) e, placed_opens (l.issued + 1) u l.places room);
      within = ap (inside (l.issued + 1)) e ∙ placed_inside l.issued u l.places l.within;
      apart = ap distinct e ∙ placed_distinct l.issued u l.places l.within l.apart;
    }

pub returns : goal.returns
returns c =
    let l = c.args.self.now in
    let u = c.args.usage in
    let n = l.issued + 1 in
    let e = c.draw.ensures in
    let room : Room l.places = omega arith in
    let few : ltb (count_by is_open l.places) 8 ≡ true = lt-ltb (count_by is_open l.places) 8 (omega arith) in
    let more : ltb l.issued 65535 ≡ true = lt-ltb l.issued 65535 c.if-self-ge65535.false in
    let itself : eqb n n ≡ true = eq-eqb n n refl in
    record {
      answer = simp (few, more);
      left = simp (few, more, e);
      opened =
          ap (λ (ps : List Place). usage_in ps n) e
          ∙ ap (λ (f : ℕ → Option Use). f n) (placed_usage n u l.places room (absent l.issued n l.places l.within (inr (omega arith))))
          ∙ simp itself;
      serial = (refl, refl);
    }
