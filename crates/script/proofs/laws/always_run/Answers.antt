use Rattle.script.proofs.Keeping.{always_run}
use Rattle.script.proofs.laws.always_run.Goals as goal

pub returns : goal.returns
returns c = always_run
