use Rattle.std.proofs.Common.{◌≡◌, ℕ, zero, suc, map, get_or, replicate, refl}
use mathlib.Core.Path.{fun_ext}
use Rattle.ledger.specs.States.{state_of, empty_ledger}
use Rattle.ledger.specs.declared.ledger.Ledger.{Ledger}
use Rattle.ledger.proofs.ledgers.Ledgers.new.Goals as goal

fresh : (n o : ℕ) (l : Ledger) → state_of l ≡ empty_ledger → get_or (map state_of (replicate n l)) o empty_ledger ≡ empty_ledger
fresh zero o l e = refl
fresh (suc n) zero l e = e
fresh (suc n) (suc o) l e = fresh n o l e

pub returns : goal.returns
returns c = fun_ext (λ o. fresh 128 o c.new.result c.new.ensures)
