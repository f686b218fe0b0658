use Rattle.std.proofs.Common.{◌≡◌, not, length, take, filter, refl, ap, ◌∙◌, arith, rules}
use Rattle.std.proofs.lemmas.List.Filters.{length-filter_both}
use Rattle.std.proofs.lemmas.Map.Views.{any-filter_same}
use Rattle.records.specs.Lists.{some, apart}
use Rattle.records.specs.Sets.{records}
use Rattle.records.proofs.Sets.{apart_kept}
use Rattle.records.proofs.set.RecordSet.strike.Goals as goal
use Rattle.records.proofs.set.RecordSet.strike.Goals.{After-sweep-self}

kept : (g : _) (c : After-sweep-self g) → take c.sweep-self.result c.sweep-self.new.places ≡ filter (λ y. not (g.T.Record.naming y c.args.thing)) (records c.args.self.now)
kept g c = c.sweep-self.ensures.kept (λ y. not (g.T.Record.naming y c.args.thing)) (λ x b r. search rules)

pub invariant_of-self : goal.invariant_of-self
invariant_of-self g c =
    let s = c.args.self.now in
    record { within = omega (arith, s.within); alone = ap (apart _) (kept g (goal.at.invariant_of-self g c).After-sweep-self) ∙ apart_kept _ _ (records s) s.alone }

pub returns-clause-many : goal.returns-clause-many
returns-clause-many g c =
    omega (arith, ap length (kept g (goal.at.returns-clause-many g c).After-sweep-self), length-filter_both (λ y. g.T.Record.naming y c.args.thing) _ (λ _. refl) (records c.args.self.now))

pub returns-clause-struck : goal.returns-clause-struck
returns-clause-struck g c =
    ap (some (λ y. g.T.Record.naming y c.args.thing)) (kept g (goal.at.returns-clause-struck g c).After-sweep-self) ∙ any-filter_same _ _ _ (λ y e. ap not e) (records c.args.self.now)
