use Rattle.std.proofs.Common.{◌≡◌, ◌≤◌, [], map, length, take, drop, sym, refl, ◌∙◌, append-nil, arith, length-set, rules}
use Rattle.std.proofs.lemmas.List.{take_all, drop_all, length-map}
use Rattle.ledger.specs.Places.{permits_of}
use Rattle.ledger.specs.States.{state_of, closed}
use Rattle.ledger.specs.declared.place.Closing.TheVariants.{Lapse}
use Rattle.ledger.specs.declared.place.Which.TheVariants.{Sessions}
use Rattle.ledger.proofs.Tables.{table_again, table_each}
use Rattle.ledger.proofs.ledgers.Ledgers.lapse_sessions.Goals as goal

pub loop-ledger-preserved : goal.loop-ledger-preserved
loop-ledger-preserved c =
    let inv = c.loop-ledger.invariant in
    let before = c.args.self.now.all in
    let ls = c.loop-ledger.ledger-items in
    let o = c.loop-ledger.ledger-index in
    let full : length ls ≡ 128 = search rules in (
      length-set _ _ _ ∙ inv.0,
      λ h. sym inv.0 ∙ full,
      table_again (closed Lapse (permits_of (Sessions c.args.sessions))) (map state_of before) ls o c.ledger-item.result c.close.new.self (omega arith) (omega (arith, length-map before state_of, inv.0)) inv.2 c.close.ensures.left,
    )

pub returns : goal.returns
returns c =
    let inv = c.loop-ledger.invariant in
    let lapsed = closed Lapse (permits_of (Sessions c.args.sessions)) in
    let ss = map state_of c.args.self.now.all in
    let past : length ss ≤ c.loop-ledger.ledger-index = omega (arith, length-map c.args.self.now.all state_of, inv.1 (omega arith)) in
    let t : take c.loop-ledger.ledger-index ss ≡ ss = take_all c.loop-ledger.ledger-index ss past in
    let d : drop c.loop-ledger.ledger-index ss ≡ [] = drop_all c.loop-ledger.ledger-index ss past in
    let e = append-nil (map lapsed ss) in
    let all : map state_of c.loop-ledger.ledger-items ≡ map lapsed ss = cc in
    table_each lapsed ss (map state_of c.loop-ledger.ledger-items) refl all
