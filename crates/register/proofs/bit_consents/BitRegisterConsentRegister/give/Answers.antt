use Rattle.std.proofs.Common.{◌≡◌, false, true, leb, length, sym, ◌∙◌, rules}
use Rattle.std.proofs.lemmas.Bool.{cond-true, cond-false, lt-ltb, not_from_true}
use Rattle.register.specs.Meaning.{in_range, owned}
use Rattle.register.specs.BitRows.{entries_in}
use Rattle.register.proofs.BitWords.{entry_put, parts, same_register}
use Rattle.register.proofs.Counts.{never_full}
use Rattle.register.proofs.bit_consents.BitRegisterConsentRegister.give.Goals as goal
use Rattle.register.proofs.bit_consents.BitRegisterConsentRegister.give.Goals.{After-with}

module _ (c : After-with) where
  inside : in_range c.args.consent.owner c.args.consent.purpose c.args.consent.data_type ≡ true
  inside = search rules

  lacks : entries_in c.args.self.now.types c.args.consent.owner c.args.consent.purpose c.args.consent.data_type ≡ false
  lacks = search rules

  room : leb 256 (owned (entries_in c.args.self.now.types) c.args.consent.owner) ≡ false
  room =
      let x = c.args.consent in
      let in_parts = parts x.owner x.purpose x.data_type inside in
      never_full (entries_in c.args.self.now.types) x.owner x.purpose x.data_type in_parts.purpose in_parts.kind lacks

pub returns-clause-answer : goal.returns-clause-answer
returns-clause-answer c =
    let at = (goal.at.returns-clause-answer c).After-with in
    sym (cond-false _ _ _ (not_from_true _ (inside at)) ∙ cond-false _ _ _ (lacks at) ∙ cond-false _ _ _ (room at))

pub returns-clause-left : goal.returns-clause-left
returns-clause-left c =
    let at = (goal.at.returns-clause-left c).After-with in
    let rows = c.args.self.now.types in
    let x = c.args.consent in
    let in_parts = parts x.owner x.purpose x.data_type (inside at) in
    let long : length rows ≡ 128 = search rules in
    let is = c.with.ensures.members ∙ cond-true _ _ _ (lt-ltb x.data_type 16 in_parts.kind) in
    same_register (entry_put rows x.owner in_parts.owner long x.purpose x.data_type true c.with.result c.args.self.now.wide (inside at) is)
    ∙ sym (cond-false _ _ _ (not_from_true _ (inside at)) ∙ cond-false _ _ _ (lacks at) ∙ cond-false _ _ _ (room at))
