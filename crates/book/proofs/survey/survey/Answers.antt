use Rattle.std.proofs.Common.{◌≡◌, [], ◌∷◌, ◌++◌, sym, ap, subst, arith}
use Rattle.book.specs.Tiling.{tallied, none_yet}
use Rattle.book.proofs.Tiling.{tallied_more}
use Rattle.book.proofs.Surveyed.{Walked, walk_more, total, total_counted, surveyed}
use Rattle.book.proofs.survey.survey.Goals as goal

pub loop-record-preserved : goal.loop-record-preserved
loop-record-preserved c =
    let so_far = c.loop-record.invariant.1 in
    let passed = c.in-Some.ensures.steps in
    let next = walk_more so_far.1 passed c.command.ensures.found c.unwrap.ensures in
    let es = so_far.0 ++ next.entry ∷ [] in
    let tally : c.count.new.self ≡ tallied none_yet es = grind (arith, tallied_more none_yet so_far.0 next.entry, c.count.ensures, c.family.ensures.value, next.command, so_far.2) in (
      omega (arith, ap total c.count.ensures, total_counted c.family.result c.loop-record.tally, passed.further, c.loop-record.invariant.0),
      (es, next.walked, tally),
    )

pub returns : goal.returns
returns c =
    let so_far = c.loop-record.invariant.1 in
    let stop = c.in_default.ensures.steps in
    let walked = subst (λ s. Walked c.args.book.now s so_far.0) (sym stop.1) so_far.1 in
    surveyed c.args.book.now c.loop-record.tally c.ending.result _ so_far.0 walked so_far.2 stop.0 c.ending.ensures
