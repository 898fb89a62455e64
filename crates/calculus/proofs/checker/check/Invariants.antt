use Rattle.vocabulary.specs.View.{model}
use Rattle.calculus.specs.Derivations.{RightBelow}
use Rattle.calculus.proofs.checker.check.Given as goal

abbrev pub invariant-loop-i : goal.invariant-loop-i
invariant-loop-i g l = RightBelow (g.T.Theory.meaning l.theory) (model l.v) l.steps l.list l.i
