use Rattle.std.proofs.Common.{◌≡◌, true, false, is_some, sym, ◌∙◌}
use Rattle.ledger.specs.Places.{usage_in, permits_of}
use Rattle.ledger.specs.States.{state_of}
use Rattle.ledger.specs.declared.place.Which.TheVariants.{Serial}
use Rattle.ledger.proofs.Closings.{closed_none, found_open, is_closed}
use Rattle.ledger.proofs.ledger.Ledger.settle.Goals as goal

pub returns-then-close-eq0 : goal.returns-then-close-eq0
returns-then-close-eq0 c =
    let l = c.args.self.now in
    let n = c.args.serial in
    let none = sym c.close.ensures.many ∙ c.if-close-eq0.true in
    let shut : is_some (usage_in l.places n) ≡ false = is_closed n l.places l.apart none in
    record {
      answer = simp shut;
      left = simp shut (c.close.ensures.left ∙ closed_none c.args.closing (permits_of (Serial n)) (state_of l) none);
    }

pub returns : goal.returns
returns c =
    let l = c.args.self.now in
    let n = c.args.serial in
    let some : is_some (usage_in l.places n) ≡ true = found_open n l.places l.apart (λ z. c.if-close-eq0.false (c.close.ensures.many ∙ z)) in
    record { answer = simp some; left = simp some c.close.ensures.left }
