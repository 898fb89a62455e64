use Rattle.std.proofs.Common.{false, rules, arith}
use Rattle.std.proofs.lemmas.List.FromFn.{fill_by_all}
use Rattle.entries.specs.Concluding.{joined, row}
use Rattle.entries.proofs.Marking.{made_at}
use Rattle.entries.proofs.cited.Cited.support.Goals as goal

pub returns : goal.returns
unfolding row
returns c =
    let x = c.args.self.now in
    let set = joined x.entries.now x.citations.now in
    let filled = c.from_fn.ensures.items in
    fill_by_all set c.from_fn.result 512 false filled.long (λ k l. made_at _ _ set (λ r y q called. search rules) c.from_fn.result 0 512 filled.each k false (omega arith) l)
