use Rattle.register.specs.ListMeaning.{entries_of}
use Rattle.register.proofs.list_consents.ListRegisterConsentRegister.holds.Goals as goal

pub returns : goal.returns
unfolding entries_of
returns c = c.contains.ensures
