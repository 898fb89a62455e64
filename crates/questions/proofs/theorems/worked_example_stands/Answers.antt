use Rattle.questions.proofs.Reckoned.{worked_example}
use Rattle.questions.proofs.theorems.worked_example_stands.Goals as goal

pub returns : goal.returns
returns c = worked_example
