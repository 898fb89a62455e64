use Rattle.std.proofs.Common.{◌≡◌, position, rules}
use Rattle.std.proofs.lemmas.Iterator.{YieldsList-from_slice}
use Rattle.std.proofs.lemmas.Iterator.Search.{position_from_yields_List}
use Rattle.states.specs.Support.{falls_with}
use Rattle.entries.proofs.store.Entries.falling.Goals as goal

pub returns : goal.returns
returns c =
    let p : c.position.result ≡ position (falls_with c.args.r) c.args.self.now =
    position_from_yields_List (falls_with c.args.r) _ _ c.position.result c.position.ensures.ran (YieldsList-from_slice c.args.self.now cc) (λ x b q k. search rules) in
    cc
