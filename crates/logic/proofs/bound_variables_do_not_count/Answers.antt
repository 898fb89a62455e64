use Rattle.logic.proofs.bound_variables_do_not_count.Goals as goal
use Rattle.logic.proofs.Coincidence.{bound_independent}

pub returns : goal.returns
returns c = bound_independent
