use Rattle.logic.proofs.growth_keeps_meanings.Goals as goal
use Rattle.logic.proofs.Keeping.{growth_keeps}

pub returns : goal.returns
returns c = growth_keeps
