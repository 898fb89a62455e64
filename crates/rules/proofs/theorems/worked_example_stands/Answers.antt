use Rattle.rules.proofs.Examples.{worked_example}
use Rattle.rules.proofs.theorems.worked_example_stands.Goals as goal

pub returns : goal.returns
returns c = worked_example
