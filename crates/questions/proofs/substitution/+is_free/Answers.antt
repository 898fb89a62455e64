use Rattle.std.proofs.Common.{◌≡◌, ◌<◌, false, sym, ◌∙◌, arith}
use Rattle.logic.specs.Formulas.{free}
use Rattle.logic.proofs.Coincidence.{bound_independent}
use Rattle.formulas.specs.Kinds.{first_role, second_role}
use Rattle.vocabulary.specs.View.{model}
use Rattle.vocabulary.proofs.Views.{well_formed}
use Rattle.formulas.proofs.Shapes.{first_below, second_below}
use Rattle.vocabulary.proofs.Layers.{firstly, secondly}
use Rattle.questions.proofs.Answering.{part_formula, part_other, free_found}
use Rattle.questions.proofs.substitution.+is_free.Goals as goal
use Rattle.questions.proofs.substitution.+is_free.Goals.{then-is_formula, else-is_formula, then-is_formula-2, else-is_formula-2}

pub is_free-first-requires : goal.is_free-first-requires
is_free-first-requires t c =
    let v = c.args.v.now in
    let lt : c.record-r.result.a < c.args.n =
    first_below (model v) (well_formed v).formulas_fall c.args.n c.record-r.result c.record-r.ensures (cc)
    in (omega arith, tt)

pub is_free-second-requires : goal.is_free-second-requires
is_free-second-requires t c =
    let v = c.args.v.now in
    let lt : c.record-r.result.b < c.args.n =
    second_below (model v) (well_formed v).formulas_fall c.args.n c.record-r.result c.record-r.ensures (cc)
    in (omega arith, tt)

pub returns : goal.returns
returns t c =
    let v = c.args.v.now in
    let f = free (model v) c.args.x in
    let r = c.record-r.result in
    let p : c.if-is_formula.first ≡ firstly false f r =
    elim c.if-is_formula.branch [
      | then-is_formula w ↦ w.first-is ∙ (w.is_free-first.ensures.answer ∙ part_formula false f (first_role r.kind) r.a (cc))
      | else-is_formula w ↦ let h = part_other false f (first_role r.kind) r.a (cc) in cc
    ] in
    let q : c.if-is_formula-2.second ≡ secondly false f r =
    elim c.if-is_formula-2.branch [
      | then-is_formula-2 w ↦ w.second-is ∙ (w.is_free-second.ensures.answer ∙ part_formula false f (second_role r.kind) r.b (cc))
      | else-is_formula-2 w ↦ let h = part_other false f (second_role r.kind) r.b (cc) in cc
    ] in
    let a = free_found (model v) (well_formed v).formulas_fall c.args.x c.args.n r c.if-is_formula.first c.if-is_formula-2.second c.free_from.result
    c.record-r.ensures p q c.free_from.ensures in
    record { answer = a; law = λ e. bound_independent (model v) (well_formed v) c.args.x c.args.n (sym a ∙ e) }
