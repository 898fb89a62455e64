use Rattle.std.proofs.Common.{◌+◌, max, ap, ◌∙◌, ap₂}
use Rattle.logic.specs.Formulas.{weight, depth}
use Rattle.logic.specs.Deciding.{type_of}
use Rattle.formulas.specs.declared.kinds.Role.{Role}
use Rattle.vocabulary.specs.Leaves.{part, type_from}
use Rattle.vocabulary.specs.View.{model}
use Rattle.vocabulary.proofs.Layers.{type_parts, weight_parts, depth_parts}
use Rattle.vocabulary.proofs.store.Vocabulary.facts_of.Goals as goal

pub returns : goal.returns
returns c =
    let v = model c.args.self.now in
    let r = c.args.r in
    let p = c.facts_of_operand-p.ensures in
    let q = c.facts_of_operand-q.ensures in
    record {
      ty = c.type_from-ty.ensures
          ∙ (ap₂ (type_from v r)
          (p.ty ∙ ap (λ (x : Role). part 0 (type_of v) x r.a) c.first_role.ensures)
          (q.ty ∙ ap (λ (x : Role). part 0 (type_of v) x r.b) c.second_role.ensures)
          ∙ type_parts v (type_of v) r.kind r.a r.b);
      weight = ap₂ (λ m n. 1 + (m + n))
          (p.weight ∙ ap (λ (x : Role). part 0 (weight v) x r.a) c.first_role.ensures)
          (q.weight ∙ ap (λ (x : Role). part 0 (weight v) x r.b) c.second_role.ensures)
          ∙ weight_parts (weight v) r.kind r.a r.b;
      depth = ap (λ m. 1 + m) c.max.ensures
          ∙ (ap₂ (λ m n. 1 + max m n)
          (p.depth ∙ ap (λ (x : Role). part 0 (depth v) x r.a) c.first_role.ensures)
          (q.depth ∙ ap (λ (x : Role). part 0 (depth v) x r.b) c.second_role.ensures)
          ∙ depth_parts (depth v) r.kind r.a r.b);
    }
