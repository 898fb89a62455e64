use Rattle.std.proofs.Common.{◌≡◌, ◌<◌, length, get_or, vec_items, refl, rules}
use Rattle.script.specs.contracts.store.Session.{the_view}
use Rattle.script.proofs.Holding.{emptied, concluded_here}
use Rattle.script.proofs.Shelved.{here, put}
use Rattle.script.proofs.store.Session.conclude.Goals as goal

pub returns : goal.returns
returns c =
    let s = the_view c.self.inside in
    let b = c.in-Some.book.now in
    let within : s.current < length s.books = search rules in
    let is : b ≡ get_or s.books s.current b = search rules in
    let at = here s.books s.current b within is in
    rw (← c.self.view_is)
    (concluded_here s _ b c.conclude.new.self c.as_slice-steps.result.now c.as_slice-hypotheses.result.now c.args.citations.now c.conclude.result c.entered-reply.result at c.as_slice-steps.ensures.value c.as_slice-hypotheses.ensures.value c.conclude.ensures.does c.entered-reply.ensures
    (emptied s _ _ (vec_items c.clear.new.self) (vec_items c.clear-2.new.self) (put s.books s.current c.conclude.new.self c.conclude.new.self refl) c.clear.ensures.items c.clear-2.ensures.items))
