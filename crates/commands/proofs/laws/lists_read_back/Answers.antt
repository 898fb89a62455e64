use Rattle.commands.proofs.Writing.{lists_read_back}
use Rattle.commands.proofs.laws.lists_read_back.Goals as goal

pub returns : goal.returns
returns c = lists_read_back
