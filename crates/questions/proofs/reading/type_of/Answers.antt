use Rattle.std.proofs.Common.{sym, ◌∙◌}
use Rattle.vocabulary.specs.View.{model}
use Rattle.vocabulary.proofs.Views.{well_formed}
use Rattle.questions.proofs.Answering.{type_answered}
use Rattle.questions.proofs.reading.type_of.Goals as goal

pub returns-clause-law : goal.returns-clause-law
returns-clause-law c t h =
    let v = c.args.v.now in
    type_answered (model v) (well_formed v) c.args.n c.facts_at.result.ty t c.is_expression.result c.is_expression.ensures c.facts_at.ensures.ty (sym c.then_some.ensures ∙ h)
