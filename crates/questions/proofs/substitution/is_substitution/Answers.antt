use Rattle.logic.proofs.Coincidence.{substitution_means}
use Rattle.vocabulary.specs.View.{model}
use Rattle.vocabulary.proofs.Views.{well_formed}
use Rattle.questions.proofs.Answering.{substituted_decided}
use Rattle.questions.proofs.substitution.is_substitution.Goals as goal

pub returns : goal.returns
returns c =
    let v = c.args.v.now in
    let d = substituted_decided (model v) (well_formed v) c.args.q c.args.x c.args.e c.args.p c.facts_at.result.ty c.variable_type.result
    c.knows_formula-known.result c.knows_variable-variable.result c.is_expression-expression.result c.replaces-substituted.result
    c.knows_formula-known.ensures c.knows_variable-variable.ensures c.is_expression-expression.ensures c.facts_at.ensures.ty c.variable_type.ensures c.replaces-substituted.ensures in
    record { answer = d; law = λ t. substitution_means (model v) (well_formed v) c.args.q c.args.x c.args.e c.args.p (d.0 t) }
