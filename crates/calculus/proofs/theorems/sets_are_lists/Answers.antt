use Rattle.calculus.proofs.Sorted.{sets_are_lists}
use Rattle.calculus.proofs.theorems.sets_are_lists.Goals as goal

pub returns : goal.returns
returns c = sets_are_lists
