use Rattle.std.proofs.Common.{◌≡◌, true, false, leb, [], ◌∷◌, ◌++◌, length, sym, ap, ◌∙◌, arith, rules}
use Rattle.std.specs.Prelude.{nat_lt}
use Rattle.std.proofs.lemmas.Bool.{cond-true, cond-false, not_from_true}
use Rattle.records.specs.Sets.{records, room, answer_number}
use Rattle.register.specs.Meaning.{in_range, owned}
use Rattle.register.specs.ListMeaning.{entries_of, share}
use Rattle.register.proofs.Fine.{is_full, is_not_full, has_place, fine_given, same_list, refused}
use Rattle.register.proofs.Lists.{entries_push}
use Rattle.register.proofs.list_consents.ListRegisterConsentRegister.give.Goals as goal
use Rattle.register.proofs.list_consents.ListRegisterConsentRegister.give.Goals.{After-contains, After-add}

inside : (c : After-contains) → in_range c.args.consent.owner c.args.consent.purpose c.args.consent.data_type ≡ true
inside c = search rules

pub returns-then-contains-clause-answer : goal.returns-then-contains-clause-answer
unfolding entries_of
returns-then-contains-clause-answer c =
    sym (cond-false _ _ _ (not_from_true _ (inside (goal.at.returns-then-contains-clause-answer c).After-contains)) ∙ cond-true _ _ _ (sym c.if-contains.ensures))

pub returns-then-contains-clause-left : goal.returns-then-contains-clause-left
unfolding entries_of
returns-then-contains-clause-left c =
    sym (cond-false _ _ _ (not_from_true _ (inside (goal.at.returns-then-contains-clause-left c).After-contains)) ∙ cond-true _ _ _ (sym c.if-contains.ensures))

pub returns-then-count-limit-clause-answer : goal.returns-then-count-limit-clause-answer
unfolding entries_of
returns-then-count-limit-clause-answer c =
    let full = is_full c.args.self.now c.args.consent.owner 0 0 _ _ c.count.ensures c.limit-limit.ensures (omega (arith, c.if-count-limit.true)) in
    sym (cond-false _ _ _ (not_from_true _ (inside (goal.at.returns-then-count-limit-clause-answer c).After-contains)) ∙ cond-false _ _ _ (sym c.if-contains.ensures) ∙ cond-true _ _ _ full)

pub returns-then-count-limit-clause-left : goal.returns-then-count-limit-clause-left
unfolding entries_of
returns-then-count-limit-clause-left c =
    let full = is_full c.args.self.now c.args.consent.owner 0 0 _ _ c.count.ensures c.limit-limit.ensures (omega (arith, c.if-count-limit.true)) in
    sym (cond-false _ _ _ (not_from_true _ (inside (goal.at.returns-then-count-limit-clause-left c).After-contains)) ∙ cond-false _ _ _ (sym c.if-contains.ensures) ∙ cond-true _ _ _ full)

-- the consent is in range and new, and its owner is under the limit
module _ (c : After-add) where
  within : in_range c.args.consent.owner c.args.consent.purpose c.args.consent.data_type ≡ true
  within = search rules

  new : entries_of (records c.args.self.now.set) c.args.consent.owner c.args.consent.purpose c.args.consent.data_type ≡ false
  unfolding entries_of
  new = sym c.if-contains.ensures

  place : nat_lt (length (records c.args.self.now.set)) (room c.args.self.now.set) ≡ true
  place = has_place c.args.self.now c.args.consent.owner c.args.consent.purpose c.args.consent.data_type _ _ c.count.ensures c.limit-limit.ensures (omega (arith, c.if-count-limit.false)) within new

  pushed : records c.add.new.self ≡ records c.args.self.now.set ++ c.args.consent ∷ []
  unfolding entries_of
  pushed = c.add.ensures.left ∙ cond-false _ _ _ new ∙ cond-true _ _ _ place

  accepted : answer_number c.add.result ≡ 0
  unfolding entries_of
  accepted = c.add.ensures.answer ∙ cond-false _ _ _ new ∙ cond-true _ _ _ place

  room_left : leb (share (room c.args.self.now.set)) (owned (entries_of (records c.args.self.now.set)) c.args.consent.owner) ≡ false
  room_left = is_not_full c.args.self.now c.args.consent.owner 0 0 _ _ c.count.ensures c.limit-limit.ensures (omega (arith, c.if-count-limit.false))

pub invariant_of-self : goal.invariant_of-self
invariant_of-self c =
    let x = c.args.consent in
    let f = fine_given c.args.self.now x.owner x.purpose x.data_type _ _ c.count.ensures c.limit-limit.ensures (omega (arith, c.if-count-limit.false)) (within c) (new c) c.add.ensures.room (pushed c) in
    record { inside = f.inside; under = f.under; enough = f.enough }

pub returns-in_err-add-clause-answer : goal.returns-in_err-add-clause-answer
returns-in_err-add-clause-answer c =
    absurd (refused _ (sym (ap answer_number c.in_err-add.was) ∙ accepted (goal.at.returns-in_err-add-clause-answer c).After-add))

pub returns-in_err-add-clause-left : goal.returns-in_err-add-clause-left
returns-in_err-add-clause-left c =
    absurd (refused _ (sym (ap answer_number c.in_err-add.was) ∙ accepted (goal.at.returns-in_err-add-clause-left c).After-add))

pub returns-clause-answer : goal.returns-clause-answer
returns-clause-answer c =
    let at = (goal.at.returns-clause-answer c).After-add in
    sym (cond-false _ _ _ (not_from_true _ (within at)) ∙ cond-false _ _ _ (new at) ∙ cond-false _ _ _ (room_left at))

pub returns-clause-left : goal.returns-clause-left
returns-clause-left c =
    let x = c.args.consent in
    let at = (goal.at.returns-clause-left c).After-add in
    same_list c.add.ensures.room (ap entries_of (pushed at) ∙ entries_push (records c.args.self.now.set) x.owner x.purpose x.data_type)
    ∙ sym (cond-false _ _ _ (not_from_true _ (within at)) ∙ cond-false _ _ _ (new at) ∙ cond-false _ _ _ (room_left at))
