use Rattle.book.proofs.Example.{worked_run}
use Rattle.book.proofs.theorems.worked_run_stands.Goals as goal

pub returns : goal.returns
returns g c = worked_run (g.T.Theory.meaning c.args.theory.now)
