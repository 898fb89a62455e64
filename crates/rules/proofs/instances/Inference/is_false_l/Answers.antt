use Rattle.std.proofs.Common.{◌≡◌, [], arith}
use Rattle.std.proofs.lemmas.Bool.{false≢true}
use Rattle.std.proofs.lemmas.Bool.Decides.{nat_tests}
use Rattle.std.proofs.lemmas.Grind.{common_steps}
use Rattle.logic.specs.declared.rule.Rule.TheVariants.{FalseL}
use Rattle.vocabulary.specs.View.{model}
use Rattle.calculus.specs.Model.{seq}
use Rattle.rules.specs.Answering.{false_answer, other_count}
use Rattle.rules.proofs.instances.Inference.is_false_l.Goals as goal

pub returns-then-is_empty : goal.returns-then-is_empty
returns-then-is_empty c =
    let i = c.args.self.now in
    let none : i.premises.now ≡ [] = grind (arith, common_steps) in
    false_answer (model i.vocabulary.now) i.step.now.a i.step.now.b i.step.now.c (seq i.sequent.now) i.premises.now c.has_falsity.result none c.has_falsity.ensures

pub returns-else-is_empty : goal.returns-else-is_empty
returns-else-is_empty c =
    let i = c.args.self.now in (
      λ e. absurd (false≢true (cc)),
      λ j. absurd (other_count (model i.vocabulary.now) FalseL i.step.now.a i.step.now.b i.step.now.c (seq i.sequent.now) i.premises.now
          (λ n. absurd (grind (arith, nat_tests))) j),
    )
