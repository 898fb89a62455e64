use Rattle.std.proofs.Common.{◌≡◌, true, vec_items, vec_len}
use Rattle.script.specs.Closing.{all_granted}
use Rattle.script.proofs.store.Session.end.Given as goal

abbrev pub invariant-loop-held : goal.invariant-loop-held
invariant-loop-held l = all_granted (vec_len l.books) (vec_items l.holds) ≡ true

abbrev pub decreases-loop-held : goal.decreases-loop-held
decreases-loop-held l = vec_len l.holds
