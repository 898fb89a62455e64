use Rattle.std.proofs.Common.{◌≤◌, vec_items, vec_len, arith}
use Rattle.script.proofs.Granting.{begun_granted}
use Rattle.script.proofs.store.Session.begin.Goals as goal

pub invariant_of-self-2 : goal.invariant_of-self-2
invariant_of-self-2 c =
    let s = c.self.inside in
    let more : vec_len s.books ≤ vec_len c.push.new.self = omega (arith, c.in_ok-push.ensures.len) in
    begun_granted (vec_len s.books) (vec_len c.push.new.self) (vec_items s.holds) more c.self.invariant
