-- A step with its sequents, as an instance of a rule.
use Rattle.logic.specs.Rules.{Instance}
use Rattle.logic.specs.declared.rule.Rule.{Rule}
use Rattle.vocabulary.specs.View.{model}
use Rattle.calculus.specs.Model.{seq, seqs}
use Rattle.rules.specs.declared.instances.Inference.{Inference}

abbrev pub InstanceOf : Inference → Rule → Type 0
InstanceOf i r = Instance (model i.vocabulary.now) r i.step.now.a i.step.now.b i.step.now.c (seqs i.premises.now) (seq i.sequent.now)
