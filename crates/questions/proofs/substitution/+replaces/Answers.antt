use Rattle.std.proofs.Common.{◌<◌, T, ◌↔◌, sym, arith}
use Rattle.logic.specs.Formulas.{free, Substituted}
use Rattle.formulas.specs.Kinds.{first_role, second_role}
use Rattle.questions.specs.Leaves.{Replaced}
use Rattle.vocabulary.specs.View.{model}
use Rattle.vocabulary.proofs.Views.{well_formed}
use Rattle.formulas.proofs.Shapes.{first_below, second_below}
use Rattle.questions.proofs.Answering.{substituted_apart, substituted_found, replaced_formula, replaced_other, absent, present}
use Rattle.questions.proofs.substitution.+replaces.Goals as goal
use Rattle.questions.proofs.substitution.+replaces.Goals.{then-is_formula, else-is_formula, then-is_formula-2, else-is_formula-2}

pub returns-then-not-is_free : goal.returns-then-not-is_free
returns-then-not-is_free t c =
    let v = c.args.v.now in
    substituted_apart (model v) c.args.x c.args.e (well_formed v).formulas_fall c.args.p c.args.q (absent (free (model v) c.args.x c.args.p) (cc))

pub replaces-first-requires : goal.replaces-first-requires
replaces-first-requires t c =
    let v = c.args.v.now in
    let lt : c.record-r.result.a < c.args.p =
    first_below (model v) (well_formed v).formulas_fall c.args.p c.record-r.result c.record-r.ensures (cc)
    in (omega arith, tt)

pub replaces-second-requires : goal.replaces-second-requires
replaces-second-requires t c =
    let v = c.args.v.now in
    let lt : c.record-r.result.b < c.args.p =
    second_below (model v) (well_formed v).formulas_fall c.args.p c.record-r.result c.record-r.ensures (cc)
    in (omega arith, tt)

pub returns : goal.returns
returns t c =
    let v = c.args.v.now in
    let f = Substituted (model v) c.args.x c.args.e in
    let r = c.record-r.result in
    let s = c.record-s.result in
    let p : T c.if-is_formula.first ↔ Replaced f (first_role r.kind) r.a s.a =
    elim c.if-is_formula.branch [
      | then-is_formula w ↦ replaced_formula f (first_role r.kind) r.a s.a c.if-is_formula.first w.replaces-first.result (cc) w.first-is w.replaces-first.ensures
      | else-is_formula w ↦ replaced_other f (first_role r.kind) r.a s.a c.if-is_formula.first (cc) w.first-is
    ] in
    let q : T c.if-is_formula-2.second ↔ Replaced f (second_role r.kind) r.b s.b =
    elim c.if-is_formula-2.branch [
      | then-is_formula-2 w ↦ replaced_formula f (second_role r.kind) r.b s.b c.if-is_formula-2.second w.replaces-second.result (cc) w.second-is w.replaces-second.ensures
      | else-is_formula-2 w ↦ replaced_other f (second_role r.kind) r.b s.b c.if-is_formula-2.second (cc) w.second-is
    ] in
    substituted_found (model v) c.args.x c.args.e (well_formed v).formulas_fall c.args.p c.args.q (present (free (model v) c.args.x c.args.p) (sym c.if-not-is_free.ensures.answer))
    r s c.record-r.ensures c.record-s.ensures c.if-is_formula.first c.if-is_formula-2.second c.substituted_under.result p q c.substituted_under.ensures
