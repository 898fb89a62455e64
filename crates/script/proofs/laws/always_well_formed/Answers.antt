use Rattle.script.proofs.Keeping.{always_well_formed}
use Rattle.script.proofs.laws.always_well_formed.Goals as goal

pub returns : goal.returns
returns c = always_well_formed
