use Rattle.std.proofs.Common.{get_or, sym, ap, ◌∙◌}
use Rattle.std.proofs.lemmas.List.Sums.{fold_more}
use Rattle.ledger.specs.Table.{Table, ledgers_of}
use Rattle.ledger_laws.specs.Events.{call_left}
use Rattle.ledger_laws.proofs.Owners.{call_elsewhere}
use Rattle.ledger_laws.proofs.run.run_owner.Goals as goal

pub loop-made-preserved : goal.loop-made-preserved
loop-made-preserved c =
    let calls = c.args.calls.now in
    let i = c.loop-made.made-index in
    let o = c.args.owner in
    let next = c.call.ensures.left in (
      next ∙ ap (call_left o (get_or calls i _)) c.loop-made.invariant.0 ∙ sym (fold_more (λ g call. call_left o call g) (ledgers_of c.args.ledgers.now) calls i _ c.loop-made-test.true),
      λ k other.
          ap (λ (f : Table). f k) next ∙ call_elsewhere o (get_or calls i _) (ledgers_of c.loop-made.ledgers) k other ∙ c.loop-made.invariant.1 k other,
    )
