use Rattle.std.proofs.Common.{Some, None}
use Rattle.std.proofs.lemmas.Bool.Decides.{Decides-at}
use Rattle.vocabulary.specs.View.{model}
use Rattle.vocabulary.proofs.Views.{well_formed}
use Rattle.calculus.specs.Model.{seq, seqs}
use Rattle.matching.specs.Lines.{line_fits}
use Rattle.rules.specs.Answering.{by_line_answer}
use Rattle.rules.proofs.instances.Inference.is_by_line.Goals as goal

pub returns : goal.returns
returns c =
    let i = c.args.self.now in
    let (w, z, asked, has) = c.in-Some.ensures in
    Decides-at c.line_fits.result (line_fits (model i.vocabulary.now) c.in-Some.line (seq i.sequent.now) (seqs i.premises.now)) c.line_fits.ensures
    (by_line_answer (model i.vocabulary.now) (well_formed i.vocabulary.now) c.args.rule i.step.now (seq i.sequent.now) i.premises.now
    c.goal.result c.goal_at.result c.goal_at-2.result w z (Some c.in-Some.line)
    c.requires.rule c.requires.count c.goal.ensures c.goal_at.ensures c.goal_at-2.ensures asked has)

pub returns-in_default : goal.returns-in_default
returns-in_default c =
    let i = c.args.self.now in
    let (w, z, asked, has) = c.in_default.ensures in
    by_line_answer (model i.vocabulary.now) (well_formed i.vocabulary.now) c.args.rule i.step.now (seq i.sequent.now) i.premises.now
    c.goal.result c.goal_at.result c.goal_at-2.result w z None
    c.requires.rule c.requires.count c.goal.ensures c.goal_at.ensures c.goal_at-2.ensures asked has
