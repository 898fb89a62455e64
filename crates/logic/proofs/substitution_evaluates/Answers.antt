use Rattle.logic.proofs.substitution_evaluates.Goals as goal
use Rattle.logic.proofs.Coincidence.{substitution_means}

pub returns : goal.returns
returns c = substitution_means
