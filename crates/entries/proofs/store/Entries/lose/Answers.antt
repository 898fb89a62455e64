use Rattle.std.proofs.Common.{get_or, set, ap, ◌∙◌, rules}
use Rattle.std.proofs.lemmas.List.Edits.{map_over_more}
use Rattle.states.specs.declared.entry.Entry.{Entry}
use Rattle.states.specs.Support.{lose}
use Rattle.entries.specs.Lists.{no_entry}
use Rattle.entries.proofs.store.Entries.lose.Goals as goal

pub loop-x-preserved : goal.loop-x-preserved
loop-x-preserved c =
    let xs = c.loop-x.x-items in
    let i = c.loop-x.x-index in
    ap (λ (y : Entry). set xs i y) c.lose.ensures ∙ map_over_more (lose c.args.r) c.deref_mut-x-items.result.now xs i (get_or xs i no_entry) c.loop-x-test.true c.loop-x.invariant (search rules)
