use Rattle.std.proofs.Common.{◌≡◌, ◌<◌, false, true, sym, ap, ◌∙◌, arith, rules, length-set}
use Rattle.std.proofs.lemmas.Bool.{and_from, cond-true, lt-ltb}
use Rattle.register.specs.Meaning.{in_range, put_one}
use Rattle.register.specs.BitRows.{entries_in}
use Rattle.register.proofs.BitWords.{entry_put, wide_set, entries_inside, same_register}
use Rattle.register.proofs.Sweeps.{owners_none, owners_more, owners_all}
use Rattle.register.proofs.bit_consents.BitRegisterConsentRegister.strike.Goals as goal

pub loop-of_owner-init : goal.loop-of_owner-init
loop-of_owner-init c =
    let rows = c.args.self.now.types in
    record { long = search rules; wide = c.args.self.now.wide; struck = owners_none (entries_in rows) (entries_inside rows) c.args.pair.purpose c.args.pair.data_type }

pub loop-of_owner-preserved : goal.loop-of_owner-preserved
unfolding put_one
loop-of_owner-preserved c =
    let before = c.args.self.now.types in
    let rows = c.loop-of_owner.of_owner-items in
    let k = c.loop-of_owner.of_owner-index in
    let q = c.args.pair.purpose in
    let t = c.args.pair.data_type in
    let v = c.without.result in
    let inv = c.loop-of_owner.invariant in
    let below : k < 128 = omega arith in
    let inside : in_range k q t ≡ true = and_from _ _ (lt-ltb k 128 below) (and_from _ _ (lt-ltb q 16 (omega arith)) (lt-ltb t 16 (omega arith))) in
    let one = entry_put rows k below inv.long q t false v inv.wide inside c.without.ensures.members in
    record {
      long = length-set rows k _ ∙ inv.long;
      wide = wide_set rows k below inv.long q v inv.wide;
      struck = owners_more (entries_in before) (entries_inside before) (entries_in rows) _ q t k inv.struck (λ a b d. ap (λ f. f a b d) one);
    }

pub returns-after-loop-of_owner : goal.returns-after-loop-of_owner
returns-after-loop-of_owner c =
    let before = c.args.self.now.types in
    let q = c.args.pair.purpose in
    let t = c.args.pair.data_type in
    let inv = c.loop-of_owner.invariant in
    same_register (inv.struck ∙ owners_all (entries_in before) (entries_inside before) q t c.loop-of_owner.of_owner-index (omega arith))
    ∙ sym (cond-true _ _ _ (and_from _ _ (lt-ltb q 16 (omega arith)) (lt-ltb t 16 (omega arith))))
