use Rattle.law.proofs.AtOnce.{beside}
use Rattle.law.proofs.law.histories_are_sound.Goals as goal

pub returns : goal.returns
returns c = beside
