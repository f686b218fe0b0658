use Rattle.law.proofs.Apart.{unheard}
use Rattle.law.proofs.Points.{point}
use Rattle.law.proofs.law.histories_are_lawful.Goals as goal

pub returns : goal.returns
returns c = (point, unheard)
