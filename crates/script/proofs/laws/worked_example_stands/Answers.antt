use Rattle.script.proofs.Working.{whole_example}
use Rattle.script.proofs.laws.worked_example_stands.Goals as goal

pub returns : goal.returns
returns c = whole_example
