use Rattle.script.proofs.Keeping.{always_current}
use Rattle.script.proofs.laws.always_current.Goals as goal

pub returns : goal.returns
returns c = always_current
