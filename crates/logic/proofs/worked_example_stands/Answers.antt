use Rattle.logic.proofs.worked_example_stands.Goals as goal
use Rattle.logic.proofs.Examples.{worked_example_stands}

pub returns : goal.returns
returns c = worked_example_stands
