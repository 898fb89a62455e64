use Rattle.std.proofs.Common.{ap}
use Rattle.vocabulary.specs.declared.facts.Formula.{Formula}
use Rattle.vocabulary.proofs.Views.{facts_read}
use Rattle.vocabulary.proofs.store.Vocabulary.facts_at.Goals as goal

pub returns : goal.returns
returns c =
    let r = facts_read c.args.self.now c.args.n c.formula.result.facts (ap (λ (f : Formula). f.facts) c.formula.ensures) in
    record { ty = r.0; weight = r.1; depth = r.2; light = r.3; shallow = r.4 }
