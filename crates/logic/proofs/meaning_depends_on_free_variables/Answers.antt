use Rattle.logic.proofs.meaning_depends_on_free_variables.Goals as goal
use Rattle.logic.proofs.Coincidence.{settled}

pub returns : goal.returns
returns c v wf w = settled v wf.formulas_fall w
