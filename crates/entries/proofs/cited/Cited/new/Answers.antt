use Rattle.std.proofs.Common.{length, ◌∙◌}
use Rattle.std.proofs.lemmas.List.{at_drop_all}
use Rattle.entries.specs.Concluding.{disorder}
use Rattle.entries.proofs.Citing.{all_below}
use Rattle.entries.proofs.cited.Cited.new.Goals as goal

pub invariant_of-result : goal.invariant_of-result
invariant_of-result c =
    let n = length c.args.entries.now in
    let cites = c.args.citations.now in
    let in_order = c.loop-place.invariant ∙ at_drop_all (disorder n c.loop-place.place c.loop-place.low) cites c.loop-place.place c.loop-place-test.false in
    record { few = c.requires; known = all_below n 0 0 cites in_order }
