use Rattle.std.proofs.Common.{◌≡◌, ◌<◌, [], ◌∷◌, ◌++◌, length, get_or, Some, Ok, Err, vec_items, vec_len, sym, refl, ap, ◌∙◌, append-nil, arith, rules}
use Rattle.book.specs.Books as definitions
use Rattle.replies.specs.declared.reply.Reply.TheVariants.{Refused}
use Rattle.replies.specs.Hands.{held}
use Rattle.script.specs.contracts.store.Session.{the_view}
use Rattle.script.specs.Closing.{all_granted}
use Rattle.script.specs.Sessions.{Session, held_reply, held_by, current_book}
use Rattle.script.proofs.Granting.{hold_granted}
use Rattle.script.proofs.Holding.{granted_reply, granted_after}
use Rattle.script.proofs.Shelved.{here, put}
use Rattle.script.proofs.store.Session.hold.Goals as goal

pub invariant_of-self-in-Ok : goal.invariant_of-self-in-Ok
invariant_of-self-in-Ok c =
    let s = c.self.inside in
    let xs = vec_items s.holds in
    let x = Some (held c.in-Ok.hold s.current) in
    let n = vec_len s.books in
    let within : s.current < n = search rules in
    let items = c.push_reserved.ensures.items ∙ ap (λ l. l ++ x ∷ []) c.in_ok-reserve.ensures.items in
    ap (all_granted n) items ∙ hold_granted n xs x c.self.invariant within

pub returns-in-Ok : goal.returns-in-Ok
returns-in-Ok c =
    let s = the_view c.self.inside in
    let b = c.in-Some.book.now in
    let within : s.current < length s.books = search rules in
    let is : b ≡ get_or s.books s.current b = search rules in
    let at = here s.books s.current b within is in
    let o = sym c.in-Ok.is ∙ c.hold.ensures.answer in
    record {
      answer =
          granted_reply s c.args.e b at (Ok c.in-Ok.hold) o c.len-n.result (omega (arith, c.in_ok-reserve.ensures.len))
          ∙ ap (λ (m : Session). held_reply m c.args.e) c.self.view_is;
      after =
          granted_after s c.args.e b at (Ok c.in-Ok.hold) o _ _ (put s.books s.current c.hold.new.self (definitions.hold b c.args.e).after c.hold.ensures.after) (c.push_reserved.ensures.items ∙ ap (λ l. l ++ Some (held c.in-Ok.hold s.current) ∷ []) c.in_ok-reserve.ensures.items)
          ∙ ap (λ (m : Session). held_by m c.args.e (current_book m)) c.self.view_is;
      refused = tt;
    }

pub returns-in-Err : goal.returns-in-Err
returns-in-Err c =
    let s = the_view c.self.inside in
    let b = c.in-Some.book.now in
    let within : s.current < length s.books = search rules in
    let is : b ≡ get_or s.books s.current b = search rules in
    let at = here s.books s.current b within is in
    let o = sym c.in-Err.is ∙ c.hold.ensures.answer in
    record {
      answer =
          ap (λ n. Refused n) c.into.ensures
          ∙ granted_reply s c.args.e b at (Err c.in-Err.refusal) o (length s.holds) refl
          ∙ ap (λ (m : Session). held_reply m c.args.e) c.self.view_is;
      after =
          granted_after s c.args.e b at (Err c.in-Err.refusal) o _ _ (put s.books s.current c.hold.new.self (definitions.hold b c.args.e).after c.hold.ensures.after) (c.in_ok-reserve.ensures.items ∙ sym (append-nil s.holds))
          ∙ ap (λ (m : Session). held_by m c.args.e (current_book m)) c.self.view_is;
      refused = tt;
    }
