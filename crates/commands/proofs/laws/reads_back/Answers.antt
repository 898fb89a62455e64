use Rattle.commands.proofs.Writing.{reads_back}
use Rattle.commands.proofs.laws.reads_back.Goals as goal

pub returns : goal.returns
returns c = reads_back
