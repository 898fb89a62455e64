use Rattle.std.proofs.Common.{ℕ, Result, sym, subst₂}
use Rattle.logic.specs.Formulas.{Vocabulary}
use Rattle.formulas.specs.declared.refusals.Refusal.{Refusal}
use Rattle.vocabulary.specs.Calls.{EnteringLaw}
use Rattle.vocabulary.specs.View.{model}
use Rattle.vocabulary.proofs.Calling.{entering_law}
use Rattle.vocabulary.proofs.Views.{well_formed}
use Rattle.vocabulary.proofs.store.Vocabulary.enter.Goals as goal

pub returns : goal.returns
returns c =
    let v = c.args.self.now in
    let d = c.dispatch.ensures in
    record {
      answer = d.answer;
      after = d.after;
      law = subst₂ (λ (r : Result ℕ Refusal) (w : Vocabulary). EnteringLaw (model v) c.args.call r w) (sym d.answer) (sym d.after)
          (entering_law (model v) (well_formed v) c.args.call);
    }
