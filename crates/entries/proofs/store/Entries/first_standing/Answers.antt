use Rattle.std.proofs.Common.{◌≡◌, ◌∙◌, rules}
use Rattle.std.proofs.lemmas.Iterator.{YieldsList-from_slice}
use Rattle.std.proofs.lemmas.Iterator.Search.{position_from_yields_List}
use Rattle.states.specs.Support.{stands_with}
use Rattle.entries.proofs.store.Entries.first_standing.Goals as goal

pub returns : goal.returns
returns c =
    let m : c.map.result ≡ c.position.result = search rules in
    m ∙ position_from_yields_List (stands_with c.args.p) _ _ c.position.result c.position.ensures.ran (YieldsList-from_slice c.args.self.now cc) (λ x b q k. search rules)
