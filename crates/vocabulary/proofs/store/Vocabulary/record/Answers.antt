use Rattle.std.proofs.Common.{ap, ◌∙◌}
use Rattle.vocabulary.specs.declared.facts.Formula.{Formula}
use Rattle.vocabulary.proofs.Views.{record_read}
use Rattle.vocabulary.proofs.store.Vocabulary.record.Goals as goal

pub returns : goal.returns
returns c = ap (λ (f : Formula). f.entered) c.formula.ensures ∙ record_read c.args.self.now c.args.n
