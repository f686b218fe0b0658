use Rattle.std.proofs.Common.{◌≡◌, true, false, length, sym, ◌∙◌, rules}
use Rattle.std.proofs.lemmas.Bool.{cond-true, cond-false, not_from_true}
use Rattle.register.specs.Meaning.{in_range}
use Rattle.register.specs.BitRows.{entries_in}
use Rattle.register.proofs.BitWords.{entry_put, parts, same_register}
use Rattle.register.proofs.bit_consents.BitRegisterConsentRegister.withdraw.Goals as goal

pub returns-clause-left : goal.returns-clause-left
returns-clause-left c =
    let rows = c.args.self.now.types in
    let x = c.args.consent in
    let inside : in_range x.owner x.purpose x.data_type ≡ true = search rules in
    let in_parts = parts x.owner x.purpose x.data_type inside in
    let long : length rows ≡ 128 = search rules in
    let wide = c.args.self.now.wide in
    let has_it : entries_in rows x.owner x.purpose x.data_type ≡ true = search rules in
    same_register (entry_put rows x.owner in_parts.owner long x.purpose x.data_type false c.without.result wide inside c.without.ensures.members)
    ∙ sym (cond-false _ _ _ (not_from_true _ inside) ∙ cond-true _ _ _ has_it)
