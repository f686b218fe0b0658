use Rattle.std.proofs.Common.{◌≡◌, ℕ, ◌+◌, ◌<◌, List, [], ◌++◌, map, length, take, drop, count_by, sym, ap, ◌∙◌, append-nil, arith}
use Rattle.std.proofs.lemmas.List.{take_all, drop_all}
use Rattle.ledger.specs.Places.{meets, cleared, permits_of}
use Rattle.ledger.specs.declared.place.Place.{Place}
use Rattle.ledger.proofs.Closings.{closed_opens}
use Rattle.ledger.proofs.Walks.{cleared_next, count_yes, count_no}
use Rattle.ledger.proofs.ledger.places.close.Goals as goal
use Rattle.ledger.proofs.ledger.places.close.Goals.{then-close, else-close}

pub loop-place-preserved : goal.loop-place-preserved
loop-place-preserved c =
    let these = permits_of c.args.which in
    let ps = c.args.places.now in
    let qs = c.loop-place.places in
    let i = c.loop-place.place-index in
    let inv = c.loop-place.invariant in
    let lt : i < length ps = omega arith in
    let long : length qs ≡ length ps = omega arith in
    let next = cleared_next these ps qs i lt long inv.1 c.close.new.self c.close.ensures.left in
    elim c.if-close.branch [
      | then-close w ↦ (w.closed-is ∙ ap (λ (k : ℕ). k + 1) inv.0 ∙ sym (count_yes these ps qs i lt long inv.1 (sym w.if-close.ensures.met)), next)
      | else-close w ↦ (w.closed-is ∙ inv.0 ∙ sym (count_no these ps qs i lt long inv.1 (sym w.if-close.ensures.met)), next)
    ]

pub returns : goal.returns
returns c =
    let these = permits_of c.args.which in
    let ps = c.args.places.now in
    let i = c.loop-place.place-index in
    let t : take i ps ≡ ps = take_all i ps (omega arith) in
    let d : drop i ps ≡ [] = drop_all i ps (omega arith) in
    let many : c.loop-place.closed ≡ count_by (meets these) ps = c.loop-place.invariant.0 ∙ ap (count_by (meets these)) t in
    record {
      many = many;
      few = omega (arith, many, closed_opens these ps);
      left = c.loop-place.invariant.1 ∙ ap (λ (qs : List Place). map (cleared these) (take i ps) ++ qs) d ∙ append-nil (map (cleared these) (take i ps)) ∙ ap (map (cleared these)) t;
    }
