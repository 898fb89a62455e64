use Rattle.std.proofs.Common.{◌-◌, length, sym, subst, arith}
use Rattle.logic.specs.Meanings.{Valid}
use Rattle.vocabulary.specs.View.{model}
use Rattle.vocabulary.proofs.Views.{well_formed}
use Rattle.calculus.specs.declared.refusal.Fault.TheVariants.{Range, NotASequent}
use Rattle.calculus.specs.Derivations.{RightBelow, Sized}
use Rattle.calculus.proofs.Derived.{root_valid}
use Rattle.calculus.proofs.checker.check.Goals as goal

pub sequent_at-requires : goal.sequent_at-requires
sequent_at-requires g c =
    let sized : Sized c.args.steps.now c.args.list.now = c.is_sized.ensures.0 c.if-not-is_sized.false in
    let right = c.loop-i.invariant (length c.args.steps.now - 1) (omega arith) in
    record { within = omega arith; range = right Range; shaped = right NotASequent }

pub returns-clause-valid : goal.returns-clause-valid
returns-clause-valid g c =
    let sized : Sized c.args.steps.now c.args.list.now = c.is_sized.ensures.0 c.if-not-is_sized.false in
    let all : RightBelow (g.T.Theory.meaning c.args.theory.now) (model c.args.v.now) c.args.steps.now c.args.list.now (length c.args.steps.now) = λ i h. c.loop-i.invariant i (omega arith) in
    subst (Valid (model c.args.v.now)) (sym c.sequent_at.ensures)
    (root_valid (g.T.Theory.meaning c.args.theory.now) (g.met.T.Theory.sound c.args.theory.now) (model c.args.v.now) (well_formed c.args.v.now) c.args.steps.now c.args.list.now (length c.args.steps.now) all sized.0)
