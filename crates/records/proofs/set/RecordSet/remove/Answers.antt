use Rattle.std.proofs.Common.{◌≡◌, true, false, not, length, take, ap, sym, ◌∙◌, subst, arith, rules}
use Rattle.std.proofs.lemmas.Bool.{cond-true, cond-false}
use Rattle.std.proofs.lemmas.List.{length-take-le}
use Rattle.records.specs.Lists.{apart, holds, without}
use Rattle.records.specs.Sets.{records, Loses}
use Rattle.records.proofs.Sets.{apart_kept, none_taken, one_taken, loses}
use Rattle.records.proofs.set.RecordSet.remove.Goals as goal
use Rattle.records.proofs.set.RecordSet.remove.Goals.{After-sweep-left}

module _ (g : _) (c : After-sweep-left g) where
  kept : take c.sweep-left.result c.sweep-left.new.places ≡ without g.T.Record.equal (records c.args.self.now) c.args.item.now
  kept = c.sweep-left.ensures.kept (λ y. not (g.T.Record.equal y c.args.item.now)) (λ y b r. search rules)

  many : (length (take c.sweep-left.result c.sweep-left.new.places) ≡ c.sweep-left.result) × (length (records c.args.self.now) ≡ c.args.self.now.count)
  many =
      let s = c.args.self.now in
      (omega (arith, s.within, length-take-le c.sweep-left.result c.sweep-left.new.places), omega (arith, s.within, length-take-le s.count s.places.now))

  -- where as many are left as there were, none was the same
  none : c.sweep-left.result ≡ c.args.self.now.count → (holds g.T.Record.equal (records c.args.self.now) c.args.item.now ≡ false) × (take c.args.self.now.count c.sweep-left.new.places ≡ records c.args.self.now)
  none all =
      let s = c.args.self.now in
      let found = none_taken _ g.met.T.Record.laws (records s) _ c.args.item.now s.alone kept (omega (arith, many)) in
      (found.0, ap (λ k. take k c.sweep-left.new.places) (sym all) ∙ found.1)

  -- where fewer are left, one was
  held : (c.sweep-left.result ≡ c.args.self.now.count → ⊥) → holds g.T.Record.equal (records c.args.self.now) c.args.item.now ≡ true
  held fewer = one_taken _ g.met.T.Record.laws (records c.args.self.now) _ c.args.item.now kept (λ e. fewer (omega (arith, many)))

pub invariant_of-self : goal.invariant_of-self
invariant_of-self g c =
    record { within = omega (arith, c.args.self.now.within); alone = ap (apart _) (none g (goal.at.invariant_of-self g c).After-sweep-left c.if-left-self.true).1 ∙ c.args.self.now.alone }

pub returns-then-left-self-clause-answer : goal.returns-then-left-self-clause-answer
returns-then-left-self-clause-answer g c =
    sym (cond-false _ _ _ (none g (goal.at.returns-then-left-self-clause-answer g c).After-sweep-left c.if-left-self.true).0)

pub returns-then-left-self-clause-refused : goal.returns-then-left-self-clause-refused
returns-then-left-self-clause-refused g c = λ _. (none g (goal.at.returns-then-left-self-clause-refused g c).After-sweep-left c.if-left-self.true).1

pub invariant_of-self-2 : goal.invariant_of-self-2
invariant_of-self-2 g c =
    let s = c.args.self.now in
    record { within = omega (arith, s.within); alone = ap (apart _) (kept g (goal.at.invariant_of-self-2 g c).After-sweep-left) ∙ apart_kept _ _ (records s) s.alone }

pub returns-clause-answer : goal.returns-clause-answer
returns-clause-answer g c = sym (cond-true _ _ _ (held g (goal.at.returns-clause-answer g c).After-sweep-left c.if-left-self.false))

pub returns-clause-loses : goal.returns-clause-loses
returns-clause-loses g c =
    let s = c.args.self.now in
    let swept = (goal.at.returns-clause-loses g c).After-sweep-left in
    λ _. subst (λ l. Loses g.T.Record.equal (records s) l c.args.item.now) (sym (kept g swept)) (loses _ g.met.T.Record.laws (records s) c.args.item.now s.alone (held g swept c.if-left-self.false))
