use Rattle.std.proofs.Common.{◌≡◌, ℕ, true, false, cond, eqb, List, [], ◌∷◌, Some, ap, refl, ◌∙◌, rules, tests, Bor}
use Rattle.std.proofs.lemmas.Iterator.{YieldsList-from_slice}
use Rattle.std.proofs.lemmas.Iterator.Search.{find_from_yields_List}
use Rattle.std.specs.List.{find}
use Rattle.std.specs.Option.{option_and_then, option_map}
use Rattle.ledger.specs.Places.{meets, permits_of, usage_at, usage_in}
use Rattle.ledger.specs.declared.place.Place.{Place}
use Rattle.ledger.specs.declared.place.Place.TheVariants.{Empty, Open}
use Rattle.ledger.specs.declared.place.Which.TheVariants.{Serial}
use Rattle.ledger.proofs.ledger.places.usage.Goals as goal

found : (n : ℕ) (ps : List Place) → option_and_then usage_at (find (meets (permits_of (Serial n))) ps) ≡ usage_in ps n
found n [] = refl
found n (Empty ∷ ps) = found n ps
found n (Open m v ∷ ps) = elim (eqb n m) as (λ b. option_and_then usage_at (cond b (Some (Open m v)) (find (meets (permits_of (Serial n))) ps)) ≡ cond b (Some v) (usage_in ps n)) [ true ↦ refl | false ↦ found n ps ]

pub returns : goal.returns
returns c =
    let n = c.args.serial in
    let ps = c.args.places.now in
    let first : option_map (λ (p : Bor Place). p.now) c.find.result ≡ find (meets (permits_of (Serial n))) ps = find_from_yields_List (meets (permits_of (Serial n))) _ _ c.find.result c.find.ensures.ran (YieldsList-from_slice ps cc) (λ x b q k. search (rules, tests)) in
    let there : c.and_then.result ≡ option_and_then usage_at (option_map (λ (p : Bor Place). p.now) c.find.result) = search (rules, tests) in
    there ∙ ap (option_and_then usage_at) first ∙ found n ps
