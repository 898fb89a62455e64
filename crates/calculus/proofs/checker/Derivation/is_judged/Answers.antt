use Rattle.std.proofs.Common.{◌<◌, arith}
use Rattle.calculus.specs.declared.refusal.Fault.TheVariants.{Range, NotASequent}
use Rattle.calculus.specs.Derivations.{at}
use Rattle.calculus.proofs.checker.Derivation.is_judged.Goals as goal

pub sequent_at-p-requires : goal.sequent_at-p-requires
sequent_at-p-requires g c =
    let earlier : (at c.args.self.now.steps.now c.args.i).first < c.args.i = c.requires.earlier.0 (omega arith) in
    let right = c.requires.before c.from.result (omega arith) in
    record { within = omega arith; range = right Range; shaped = right NotASequent }

pub sequent_at-p-requires-in_default : goal.sequent_at-p-requires-in_default
sequent_at-p-requires-in_default g c =
    let earlier : (at c.args.self.now.steps.now c.args.i).first < c.args.i = c.requires.earlier.0 (omega arith) in
    let right = c.requires.before c.from-in_default.result (omega arith) in
    record { within = omega arith; range = right Range; shaped = right NotASequent }

pub sequent_at-q-requires : goal.sequent_at-q-requires
sequent_at-q-requires g c =
    let earlier : (at c.args.self.now.steps.now c.args.i).second < c.args.i = c.requires.earlier.1 (omega arith) in
    let right = c.requires.before c.from-in_default-2.result (omega arith) in
    record { within = omega arith; range = right Range; shaped = right NotASequent }
