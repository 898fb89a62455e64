use Rattle.std.proofs.Common.{◌≡◌, ◌↔◌, is_ok, Err, Decides, ap, subst}
use Rattle.logic.specs.Formulas.{Vocabulary}
use Rattle.calculus.specs.declared.refusal.Refusal.{Refusal}
use Rattle.calculus.specs.Derivations.{FirstFault, RightDerivation}
use Rattle.book.specs.Books.{Model}
use Rattle.book.proofs.store.Book.check.Goals as goal

pub returns-clause-accepted : goal.returns-clause-accepted
returns-clause-accepted g c =
    subst (λ (v : Vocabulary). Decides (is_ok c.check.result) (RightDerivation (g.T.Theory.meaning c.args.theory.now) v c.args.steps.now c.args.hypotheses.now))
    (ap (λ (b : Model). b.vocabulary) c.self.view_is) c.check.ensures.accepted

pub returns-clause-refused : goal.returns-clause-refused
returns-clause-refused g c =
    subst (λ (v : Vocabulary). (e : Refusal) → (c.check.result ≡ Err e) ↔ FirstFault e (g.T.Theory.meaning c.args.theory.now) v c.args.steps.now c.args.hypotheses.now)
    (ap (λ (b : Model). b.vocabulary) c.self.view_is) c.check.ensures.refused
