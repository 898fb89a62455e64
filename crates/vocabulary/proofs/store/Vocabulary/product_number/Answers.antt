use Rattle.std.proofs.Common.{◌≡◌, vec_items, sym, ◌∙◌, rules}
use Rattle.std.proofs.lemmas.Iterator.{YieldsList-from_slice}
use Rattle.std.proofs.lemmas.Iterator.Search.{position_from_yields_List}
use Rattle.logic.specs.Deciding.{is_product}
use Rattle.formulas.specs.Records.{sort_of}
use Rattle.formulas.specs.declared.records.TypeDef.{TypeDef}
use Rattle.vocabulary.proofs.Found.{position_found}
use Rattle.vocabulary.proofs.Views.{found_map}
use Rattle.vocabulary.proofs.store.Vocabulary.product_number.Goals as goal

pub returns : goal.returns
returns c =
    let ts = vec_items c.args.self.now.types in
    let test = is_product c.args.s c.args.t in
    let same = λ (d : TypeDef). test (sort_of d) in
    let m : c.map.result ≡ c.position.result = search rules in
    m
    ∙ (position_from_yields_List same _ _ c.position.result c.position.ensures.ran (YieldsList-from_slice ts cc) (λ x b q k. search rules)
    ∙ (position_found same ts ∙ sym (found_map sort_of test ts)))
