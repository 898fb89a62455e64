use Rattle.std.proofs.Common.{ap, ◌∙◌, ap₂}
use Rattle.logic.specs.Deciding.{type_of}
use Rattle.formulas.specs.declared.kinds.Role.{Role}
use Rattle.vocabulary.specs.Leaves.{part, agree_from}
use Rattle.vocabulary.specs.View.{model}
use Rattle.vocabulary.proofs.Layers.{agree_parts}
use Rattle.vocabulary.proofs.store.Vocabulary.types_agree.Goals as goal

pub returns : goal.returns
returns c =
    let v = model c.args.self.now in
    let r = c.args.r in
    c.agree_from.ensures
    ∙ (ap₂ (agree_from v r)
    (c.facts_of_operand-p.ensures.ty ∙ ap (λ (x : Role). part 0 (type_of v) x r.a) c.first_role.ensures)
    (c.facts_of_operand-q.ensures.ty ∙ ap (λ (x : Role). part 0 (type_of v) x r.b) c.second_role.ensures)
    ∙ agree_parts v r.kind r.a r.b)
