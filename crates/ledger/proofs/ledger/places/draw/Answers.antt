use Rattle.std.proofs.Common.{not, set, sym, ap, ◌∙◌}
use Rattle.std.proofs.lemmas.Iterator.Adapters.{position_from-zero}
use Rattle.std.proofs.lemmas.List.Quantifiers.{position-Some}
use Rattle.ledger.specs.Places.{is_open}
use Rattle.ledger.specs.declared.place.Place.TheVariants.{Empty}
use Rattle.ledger.proofs.Walks.{drawn_at, placed_first, placed_none}
use Rattle.ledger.proofs.ledger.places.draw.Goals as goal

pub returns-in-Some : goal.returns-in-Some
returns-in-Some c =
    let ps = c.args.places.now in
    let i = c.in-Some.at in
    let first = position-Some (λ p. not (is_open p)) ps i Empty (sym c.in-Some.ensures) in
    ap (set ps i) (c.take.ensures.left ∙ drawn_at c.args.serial c.args.usage _ first.1) ∙ placed_first c.args.serial c.args.usage ps i first.0 first.1 first.2

pub returns-in_default : goal.returns-in_default
returns-in_default c =
    let ps = c.args.places.now in
    sym (placed_none c.args.serial c.args.usage ps 0 (sym (position_from-zero (λ p. not (is_open p)) ps) ∙ sym c.first_empty.ensures ∙ c.in_default.is))
