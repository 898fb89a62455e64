use Rattle.logic.proofs.values_are_typed.Goals as goal
use Rattle.logic.proofs.Typing.{values_typed}

pub returns : goal.returns
returns c = values_typed
