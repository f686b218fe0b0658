use Rattle.std.proofs.Common.{◌≡◌, length, sym, ◌∙◌, arith, rules}
use Rattle.std.proofs.lemmas.Bool.{cond-true, lt-ltb}
use Rattle.register.proofs.BitWords.{owner_emptied, same_register}
use Rattle.register.proofs.bit_consents.BitRegisterConsentRegister.erase.Goals as goal

pub returns-then-owner-lt128 : goal.returns-then-owner-lt128
returns-then-owner-lt128 c =
    let rows = c.args.self.now.types in
    let long : length rows ≡ 128 = search rules in
    same_register (owner_emptied rows c.args.owner (omega arith) long 16 c.empty.result c.empty.ensures.members)
    ∙ sym (cond-true _ _ _ (lt-ltb c.args.owner 128 (omega arith)))
