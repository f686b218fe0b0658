use Rattle.std.proofs.Common.{sym, arith}
use Rattle.std.proofs.lemmas.Fn.{says_at}
use Rattle.std.proofs.lemmas.List.Filters.{FiltersInPlace-more_set, FiltersInPlace-more_no}
use Rattle.records.proofs.rows.sweep.Goals as goal
use Rattle.records.proofs.rows.sweep.Goals.{then-keep, else-keep}

pub loop-i-preserved : goal.loop-i-preserved
loop-i-preserved g c =
    let x = c.index-places-i.result in
    let is = c.index-places-i.is in
    elim c.if-keep.branch [
      | then-keep w ↦ (
        omega arith,
        λ keeps tests. rw (w.places-is, w.n-is) (FiltersInPlace-more_set {x = x} (c.loop-i.invariant.1 keeps tests) (omega arith) (sym (tests x _ (says_at g.F.Fn c.keep.ensures w.if-keep.true))) is),
      )
      | else-keep w ↦ (
        omega arith,
        λ keeps tests. rw (w.places-is, w.n-is) (FiltersInPlace-more_no {x = x} (c.loop-i.invariant.1 keeps tests) (omega arith) (sym (tests x _ (says_at g.F.Fn c.keep.ensures w.if-keep.false))) is),
      )
    ]
