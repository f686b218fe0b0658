use Rattle.std.proofs.Common.{get_or, sym, ap, ◌∙◌, arith}
use Rattle.std.proofs.lemmas.List.Sums.{fold_more}
use Rattle.ledger.specs.Table.{ledgers_of}
use Rattle.ledger.proofs.Tables.{table_sound}
use Rattle.ledger_laws.specs.Events.{event_left}
use Rattle.ledger_laws.proofs.Histories.{grows_more, accounted_more}
use Rattle.ledger_laws.proofs.run.run.Goals as goal

pub loop-event-preserved : goal.loop-event-preserved
loop-event-preserved c =
    let es = c.args.events.now in
    let i = c.loop-event.event-index in
    let lt = c.loop-event-test.true in
    let next = c.apply.ensures.left in
    let f = ledgers_of c.loop-event.ledgers in (
      next ∙ ap (event_left (get_or es i _)) c.loop-event.invariant.0 ∙ sym (fold_more (λ g e. event_left e g) (ledgers_of c.args.ledgers.now) es i _ lt),
      λ o. omega (arith, grows_more es i _ f (ledgers_of c.apply.new.ledgers) lt next o, c.loop-event.invariant.1 o),
      λ o before within_range acc.
          accounted_more es i _ f (ledgers_of c.apply.new.ledgers) lt next o before within_range (table_sound c.loop-event.ledgers.all o) (table_sound c.apply.new.ledgers.all o)
          (c.loop-event.invariant.2 o before within_range acc),
    )
