use Rattle.std.proofs.Common.{sym, subst}
use Rattle.register_laws.specs.Owners.{AlikeToOthers}
use Rattle.register_laws.proofs.Others.{withdraw_alike}
use Rattle.register_laws.proofs.owners.withdraw.Goals as goal

pub returns : goal.returns
returns g c =
    let r = c.withdraw.ensures in
    record { answer = r.answer; others = subst (AlikeToOthers c.args.consent.owner _) (sym r.left) (withdraw_alike _ c.args.consent.owner c.args.consent.purpose c.args.consent.data_type) }
