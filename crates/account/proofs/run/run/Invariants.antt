use Rattle.std.proofs.Common.{◌≡◌}
use Rattle.vocabulary.proofs.Runs.{first_answered, after_first}
use Rattle.account.specs.Steps.{after_entry, with_answer}
use Rattle.account.proofs.run.run.Given as goal

abbrev pub invariant-loop-entry : goal.invariant-loop-entry
invariant-loop-entry g l =
    record {
      answers : l.entry-items ≡ first_answered with_answer after_entry l.entry-index (g.R.ConsentRegister.meaning l.fn.register) l.fn.entries;
      left : g.R.ConsentRegister.meaning l.register ≡ after_first after_entry l.entry-index (g.R.ConsentRegister.meaning l.fn.register) l.fn.entries;
    }
