use Rattle.std.proofs.Common.{◌≡◌, vec_items, ◌∙◌, rules}
use Rattle.std.proofs.lemmas.Iterator.{YieldsList-from_slice}
use Rattle.std.proofs.lemmas.Iterator.Search.{position_from_yields_List}
use Rattle.formulas.specs.Records.{same_record}
use Rattle.vocabulary.specs.declared.facts.Formula.{Formula}
use Rattle.vocabulary.proofs.Entered.{found_record}
use Rattle.vocabulary.proofs.Found.{position_found}
use Rattle.vocabulary.proofs.Views.{stored}
use Rattle.vocabulary.proofs.store.Vocabulary.formula_number.Goals as goal

pub returns : goal.returns
returns c =
    let fs = vec_items c.args.self.now.formulas in
    let same = λ (f : Formula). same_record c.args.r f.entered in
    let m : c.map.result ≡ c.position.result = search rules in
    m
    ∙ (position_from_yields_List same _ _ c.position.result c.position.ensures.ran (YieldsList-from_slice fs cc) (λ x b q k. search rules)
    ∙ (position_found same fs ∙ found_record c.args.r fs (stored c.args.self.now).plain))
