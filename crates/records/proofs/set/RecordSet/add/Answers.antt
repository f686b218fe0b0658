use Rattle.std.proofs.Common.{◌≡◌, ◌+◌, [], ◌∷◌, ◌++◌, take, set, sym, ap, ◌∙◌, subst, arith, length-set}
use Rattle.std.proofs.lemmas.List.{take_more_set}
use Rattle.records.specs.Lists.{apart}
use Rattle.records.specs.Sets.{records, Gains}
use Rattle.records.proofs.Sets.{apart_push, gains}
use Rattle.records.proofs.set.RecordSet.add.Goals as goal

pub invariant_of-self : goal.invariant_of-self
invariant_of-self g c =
    let s = c.args.self.now in
    let x = c.args.item in
    let pushed : take (s.count + 1) (set s.places.now s.count x) ≡ records s ++ x ∷ [] = take_more_set s.places.now s.count x (omega (arith, c.places.ensures)) in
    record {
      within = omega (arith, c.places.ensures, length-set s.places.now s.count x);
      alone = ap (apart _) pushed ∙ apart_push _ g.met.T.Record.laws (records s) x s.alone (sym c.contains.ensures ∙ c.if-contains.false);
    }

pub returns-clause-gains : goal.returns-clause-gains
returns-clause-gains g c =
    let s = c.args.self.now in
    let x = c.args.item in
    let pushed : take (s.count + 1) (set s.places.now s.count x) ≡ records s ++ x ∷ [] = take_more_set s.places.now s.count x (omega (arith, c.places.ensures)) in
    λ _. subst (λ ys. Gains g.T.Record.equal (records s) ys x) (sym pushed) (gains _ g.met.T.Record.laws (records s) x (sym c.contains.ensures ∙ c.if-contains.false))
