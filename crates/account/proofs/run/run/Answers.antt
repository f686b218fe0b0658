use Rattle.std.proofs.Common.{◌≡◌, ◌+◌, ◌<◌, suc, length, get_or, set, refl, ap, ◌∙◌, arith}
use Rattle.std.specs.Prelude.{None, Some, map}
use Rattle.vocabulary.proofs.Runs.{first_answered, after_first, all_answered, left_by_all, one_more, one_more_left}
use Rattle.account.specs.declared.entry.Entry.{Entry}
use Rattle.account.specs.declared.entry.Step.TheVariants.{Give}
use Rattle.account.specs.Answers.{entry_number}
use Rattle.account.specs.Steps.{after_entry, with_answer}
use Rattle.account.proofs.Numbers.{numbered}
use Rattle.account.proofs.run.run.Goals as goal

pub loop-entry-init : goal.loop-entry-init
unfolding first_answered after_first
loop-entry-init g c = record { answers = refl; left = refl }

-- what indexing past the end would give
nowhere : Entry
nowhere = record { step = Give (record { owner = 0; purpose = 0; data_type = 0 }); answer = None }

pub loop-entry-preserved : goal.loop-entry-preserved
unfolding nowhere
loop-entry-preserved g c =
    let m = g.R.ConsentRegister.meaning c.args.register.now in
    let es = c.args.entries.now in
    let xs = c.loop-entry.entry-items in
    let k = c.loop-entry.entry-index in
    let inv = c.loop-entry.invariant in
    let inside : k < length es = omega arith in
    let next : suc k ≡ k + 1 = omega arith in
    record {
      answers =
          ap (λ a. set xs k (record { step = (get_or xs k nowhere).step; answer = Some a })) c.apply.ensures.answer
          ∙ (λ i. set (inv.answers i) k (with_answer (inv.left i) (get_or (inv.answers i) k nowhere)))
          ∙ one_more with_answer after_entry k m es nowhere inside
          ∙ ap (λ n. first_answered with_answer after_entry n m es) next;
      left =
          c.apply.ensures.left
          ∙ (λ i. after_entry (inv.left i) (get_or (inv.answers i) k nowhere))
          ∙ one_more_left with_answer after_entry k m es nowhere inside
          ∙ ap (λ n. after_first after_entry n m es) next;
    }

pub returns : goal.returns
returns g c =
    let m = g.R.ConsentRegister.meaning c.args.register.now in
    let es = c.args.entries.now in
    let inv = c.loop-entry.invariant in
    let end : c.loop-entry.entry-index ≡ length es = omega arith in
    let answers = inv.answers ∙ ap (λ n. first_answered with_answer after_entry n m es) end ∙ all_answered with_answer after_entry m es in
    record {
      answers = answers;
      numbers = ap (map entry_number) answers ∙ numbered m es;
      left = inv.left ∙ ap (λ n. after_first after_entry n m es) end ∙ left_by_all with_answer after_entry m es;
    }
