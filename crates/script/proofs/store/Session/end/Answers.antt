use Rattle.std.proofs.Common.{◌≡◌, true, vec_items, vec_len, sym, subst}
use Rattle.script.specs.Closing.{all_granted}
use Rattle.script.proofs.Granting.{last_granted, front_granted}
use Rattle.script.proofs.store.Session.end.Goals as goal

pub close-requires : goal.close-requires
close-requires c =
    last_granted (vec_len c.loop-held.books) (vec_items c.loop-held.holds) (vec_items c.pop.new.self) c.in-Some.held c.in-Some.ensures.items c.loop-held.invariant

pub loop-held-preserved : goal.loop-held-preserved
loop-held-preserved c =
    let left = vec_items c.pop.new.self in
    subst (λ n. all_granted n left ≡ true) (sym c.close.ensures.len)
    (front_granted (vec_len c.loop-held.books) (vec_items c.loop-held.holds) left c.in-Some.held c.in-Some.ensures.items c.loop-held.invariant)
