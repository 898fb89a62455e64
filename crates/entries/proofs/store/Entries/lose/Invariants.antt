use Rattle.std.proofs.Common.{◌≡◌, ◌++◌, map, take, drop}
use Rattle.states.specs.Support.{lose}
use Rattle.entries.proofs.store.Entries.lose.Given as goal

abbrev pub invariant-loop-x : goal.invariant-loop-x
invariant-loop-x l = l.x-items ≡ map (lose l.r) (take l.x-index l.initial.x-items) ++ drop l.x-index l.initial.x-items
