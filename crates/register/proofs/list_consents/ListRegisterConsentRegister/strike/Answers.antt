use Rattle.register.proofs.Fine.{fine_of, fine_kept, struck}
use Rattle.register.proofs.list_consents.ListRegisterConsentRegister.strike.Goals as goal

pub invariant_of-self : goal.invariant_of-self
invariant_of-self c =
    let f = fine_kept _ (fine_of c.args.self.now) c.strike.ensures.room c.strike.ensures.left in
    record { inside = f.inside; under = f.under; enough = f.enough }

pub returns : goal.returns
returns c = struck (fine_of c.args.self.now) c.args.pair.purpose c.args.pair.data_type c.strike.ensures.room c.strike.ensures.left
