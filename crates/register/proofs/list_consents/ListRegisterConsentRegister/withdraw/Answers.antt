use Rattle.std.proofs.Common.{◌≡◌, true, sym, refl, ap, ◌∙◌, rules}
use Rattle.std.proofs.lemmas.Bool.{cond-true, cond-false, not_from_true}
use Rattle.records.specs.Sets.{records}
use Rattle.register.specs.Meaning.{in_range}
use Rattle.register.specs.Answers.{fault_number, of_set_fault}
use Rattle.register.specs.ListMeaning.{entries_of}
use Rattle.register.proofs.Fine.{fine_of, fine_kept, same_list, said, removed, not_removed, entries_without}
use Rattle.register.proofs.list_consents.ListRegisterConsentRegister.withdraw.Goals as goal
use Rattle.register.proofs.list_consents.ListRegisterConsentRegister.withdraw.Goals.{After-remove}

inside : (c : After-remove) → in_range c.args.consent.owner c.args.consent.purpose c.args.consent.data_type ≡ true
inside c = search rules

pub invariant_of-self : goal.invariant_of-self
invariant_of-self c =
    let f = fine_kept _ (fine_of c.args.self.now) c.remove.ensures.room c.remove.ensures.left in
    record { inside = f.inside; under = f.under; enough = f.enough }

pub returns-in_err-remove-clause-answer : goal.returns-in_err-remove-clause-answer
unfolding entries_of
returns-in_err-remove-clause-answer c =
    let absent = not_removed _ _ c.in_err-remove.ensures.answer in
    let at = (goal.at.returns-in_err-remove-clause-answer c).After-remove in
    said _ _ c.from_residual-in_err-remove.ensures.1
    ∙ ap (λ f. fault_number (of_set_fault f)) absent.1
    ∙ sym (cond-false _ _ _ (not_from_true _ (inside at)) ∙ cond-false _ _ _ absent.0)

pub returns-in_err-remove-clause-left : goal.returns-in_err-remove-clause-left
unfolding entries_of
returns-in_err-remove-clause-left c =
    let r = c.in_err-remove.ensures in
    let at = (goal.at.returns-in_err-remove-clause-left c).After-remove in
    same_list r.room (ap entries_of (r.refused refl))
    ∙ sym (cond-false _ _ _ (not_from_true _ (inside at)) ∙ cond-false _ _ _ (not_removed _ _ r.answer).0)

pub returns-clause-answer : goal.returns-clause-answer
unfolding entries_of
returns-clause-answer c =
    let at = (goal.at.returns-clause-answer c).After-remove in
    sym (cond-false _ _ _ (not_from_true _ (inside at)) ∙ cond-true _ _ _ (removed _ c.in_ok-remove.ensures.answer))

pub returns-clause-left : goal.returns-clause-left
unfolding entries_of
returns-clause-left c =
    let r = c.in_ok-remove.ensures in
    let x = c.args.consent in
    let at = (goal.at.returns-clause-left c).After-remove in
    same_list r.room (ap entries_of r.left ∙ entries_without (records c.args.self.now.set) x.owner x.purpose x.data_type)
    ∙ sym (cond-false _ _ _ (not_from_true _ (inside at)) ∙ cond-true _ _ _ (removed _ r.answer))
