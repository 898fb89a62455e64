use Rattle.logic.proofs.growth_stays_well_formed.Goals as goal
use Rattle.logic.proofs.Entering.{stays_well_formed}

pub returns : goal.returns
returns c = stays_well_formed
