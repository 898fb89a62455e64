use Rattle.rules.specs.TablesLemmas.{table_right}
use Rattle.rules.proofs.theorems.table_is_right.Goals as goal

pub returns : goal.returns
returns c = table_right
