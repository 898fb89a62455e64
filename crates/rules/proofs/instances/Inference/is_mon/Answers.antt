use Rattle.std.proofs.Common.{◌≡◌, [], ◌∷◌, Bool, true, ◌&&◌, ◌==◌, Decides, subst, refl, ap, arith}
use Rattle.std.proofs.lemmas.Bool.{eq-eqb}
use Rattle.std.proofs.lemmas.Grind.{common_steps}
use Rattle.logic.specs.Rules.{Instance}
use Rattle.logic.specs.declared.rule.Rule.TheVariants.{Mon}
use Rattle.vocabulary.specs.View.{model}
use Rattle.calculus.specs.Model.{seq, seqs}
use Rattle.rules.specs.Answering.{mon_answer}
use Rattle.rules.proofs.instances.Inference.is_mon.Goals as goal

pub returns-then-goal : goal.returns-then-goal
returns-then-goal c =
    let i = c.args.self.now in
    let one : i.premises.now ≡ c.p-item.result ∷ [] = grind (arith, common_steps) in
    let same : ((seq i.sequent.now).goal == (seq c.p-item.result).goal) ≡ true = eq-eqb _ _ (cc) in
    subst (λ (t : Bool). Decides t (Instance (model i.vocabulary.now) Mon i.step.now.a i.step.now.b i.step.now.c (seqs i.premises.now) (seq i.sequent.now))) (ap (λ (b : Bool). b && c.covered.result) same)
    (mon_answer (model i.vocabulary.now) i.step.now.a i.step.now.b i.step.now.c (seq i.sequent.now) i.premises.now c.p-item.result _ _ _ _ c.covered.result one refl refl refl refl (cc))
