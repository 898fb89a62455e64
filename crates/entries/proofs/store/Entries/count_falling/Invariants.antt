use Rattle.std.proofs.Common.{◌≡◌, ◌≤◌, take, count_by}
use Rattle.states.specs.Support.{falls_with}
use Rattle.entries.proofs.store.Entries.count_falling.Given as goal

abbrev pub invariant-loop-x : goal.invariant-loop-x
invariant-loop-x l = (l.n ≤ l.x-index) × (l.n ≡ count_by (falls_with l.r) (take l.x-index l.x-items))
