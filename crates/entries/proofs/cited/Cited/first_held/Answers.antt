use Rattle.std.proofs.Common.{◌≡◌, ◌∙◌, sym, rules}
use Rattle.std.proofs.lemmas.Iterator.{YieldsList-from_slice}
use Rattle.std.proofs.lemmas.Iterator.Search.{position_from_yields_List}
use Rattle.entries.specs.Concluding.{support_held}
use Rattle.entries.proofs.Holding.{none_held}
use Rattle.entries.proofs.cited.Cited.first_held.Goals as goal

pub returns-then-not-has_held : goal.returns-then-not-has_held
returns-then-not-has_held c = sym (none_held c.args.self.now.entries.now c.args.self.now.citations.now (sym c.has_held.ensures ∙ c.if-not-has_held.true))

pub returns : goal.returns
returns c =
    let x = c.args.self.now in
    let m : c.map.result ≡ c.position.result = search rules in
    m ∙ position_from_yields_List (support_held x.entries.now) _ _ c.position.result c.position.ensures.ran (YieldsList-from_slice x.citations.now cc) (λ x b q k. search rules)
