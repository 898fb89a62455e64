use Rattle.std.proofs.Common.{ℕ, ◌-◌, slice_index, sym, ◌∙◌, ap}
use Rattle.vocabulary.specs.View.{model}
use Rattle.calculus.specs.Model.{seq}
use Rattle.rules.specs.Tables.{arities}
use Rattle.rules.specs.Built.{count_answer}
use Rattle.rules.proofs.theories.RuleRangeTheory.is_instance.Goals as goal

pub returns-then-premises-from : goal.returns-then-premises-from
returns-then-premises-from g c =
    count_answer g.row.LOW g.row.HIGH (model c.args.v.now) c.args.step.now (seq c.args.sequent.now) c.args.premises.now
    (λ e. c.if-premises-from.true (e ∙ ap (λ (n : ℕ). slice_index arities (n - 1)) (sym c.in-Some.ensures.1) ∙ sym c.premise_count.ensures ∙ sym c.from.ensures))
