use Rattle.std.proofs.Common.{◌≡◌, ◌<◌, true, length, get_or, set, vec_items, vec_len, sym, ap, ◌∙◌, subst, rules}
use Rattle.script.specs.contracts.store.Session.{the_view}
use Rattle.script.specs.Closing.{GrantedBy, all_granted}
use Rattle.script.specs.Sessions.{Session, closed, closed_at}
use Rattle.script.proofs.Granting.{set_granted, at_granted}
use Rattle.script.proofs.Holding.{closed_here, closed_after}
use Rattle.script.proofs.Shelved.{in_hand}
use Rattle.script.proofs.store.Session.close_hold.Goals as goal

pub close-requires : goal.close-requires
close-requires c =
    let s = c.self.inside in
    let holds = vec_items s.holds in
    let x = c.take-held.result in
    let within : c.args.h < length holds = search rules in
    let is : x ≡ get_or holds c.args.h x = search rules in
    at_granted (vec_len s.books) holds c.args.h x c.self.invariant within is

pub invariant_of-self-2 : goal.invariant_of-self-2
invariant_of-self-2 c =
    let s = c.self.inside in
    let n = vec_len s.books in
    let t = set_granted n (vec_items s.holds) c.args.h c.take-held.new.self c.self.invariant (subst (GrantedBy n) (sym c.take-held.ensures.after) tt) in
    subst (λ m. all_granted m (set (vec_items s.holds) c.args.h c.take-held.new.self) ≡ true) (sym c.close.ensures.len) t

pub returns : goal.returns
returns c =
    let s = the_view c.self.inside in
    let x = c.take-held.result in
    let within : c.args.h < length s.holds = search rules in
    let is : x ≡ get_or s.holds c.args.h x = search rules in
    let f = in_hand s.holds c.args.h x within is in
    record {
      answer = c.close.ensures.answer ∙ closed_here s c.args.h x f ∙ ap (λ (m : Session). closed m c.args.h) c.self.view_is;
      after =
          closed_after s c.args.h x f _ c.take-held.new.self c.close.ensures.after c.take-held.ensures.after
          ∙ ap (λ (m : Session). closed_at m c.args.h) c.self.view_is;
    }
