use Rattle.std.proofs.Common.{◌≡◌, ◌<◌, ◌≤◌, length, get_or, vec_items, vec_len, sym, ap, ◌∙◌, subst, rules}
use Rattle.std.specs.List.{slice_get}
use Rattle.replies.specs.Hands.{undergo}
use Rattle.script.specs.contracts.store.Session.{the_view}
use Rattle.script.specs.Closing.{GrantedBy}
use Rattle.script.specs.Sessions.{Session, current_book, with_books, hold_call_reply, hold_called}
use Rattle.script.proofs.Granting.{set_granted, at_granted, still_granted}
use Rattle.script.proofs.Holding.{some_reply, some_after, none_reply, none_after}
use Rattle.script.proofs.Shelved.{here, put, set_nth, in_hand, not_in_hand}
use Rattle.script.proofs.store.Session.call_with_hold.Goals.{in-Some-get_mut, in-None}
use Rattle.script.proofs.store.Session.call_with_hold.Goals as goal

pub invariant_of-self-2 : goal.invariant_of-self-2
invariant_of-self-2 c =
    let s = c.self.inside in
    let n = vec_len s.books in
    let holds = vec_items s.holds in
    elim c.match-get_mut-2.branch [
      | in-Some-get_mut w ↦
          let x = w.in-Some-get_mut.held.now in
          let within : c.args.h < length holds = search rules in
          let is : x ≡ get_or holds c.args.h x = search rules in
          let g = still_granted n c.args.call c.in-Some.book.now x (at_granted n holds c.args.h x c.self.invariant within is) in
          rw w.self-inside-is (set_granted n holds c.args.h w.undergo.new.place c.self.invariant (subst (GrantedBy n) (sym w.undergo.ensures.hand) g))
      | in-None w ↦ rw w.self-inside-is c.self.invariant
    ]

pub returns : goal.returns
returns c =
    let s = the_view c.self.inside in
    let b = c.in-Some.book.now in
    let within : s.current < length s.books = search rules in
    let is : b ≡ get_or s.books s.current b = search rules in
    let at = here s.books s.current b within is in
    let h = c.args.h in
    let d = c.args.call in
    let reply = ap (λ (m : Session). hold_call_reply m d h) c.self.view_is in
    let called = ap (λ (m : Session). hold_called m d h (current_book m) (slice_get m.holds h)) c.self.view_is in
    elim c.match-get_mut-2.branch [
      | in-Some-get_mut w ↦
          let x = w.in-Some-get_mut.held.now in
          let near : h < length s.holds = search rules in
          let this : x ≡ get_or s.holds h x = search rules in
          let f = in_hand s.holds h x near this in
          let put_back = put s.books s.current w.undergo.new.book (undergo d b x).book w.undergo.ensures.book in
          record {
            answer = w.result-is ∙ w.undergo.ensures.answer ∙ some_reply s d h b at x f ∙ reply;
            after = ap the_view w.self-inside-is ∙ some_after s d h b at x w.undergo.new.place _ f w.undergo.ensures.hand put_back ∙ called;
          }
      | in-None w ↦
          let past : length s.holds ≤ h = search rules in
          let f = not_in_hand s.holds h past in
          let same = set_nth s.books s.current b at in
          record {
            answer = w.result-is ∙ none_reply s d h b at f ∙ reply;
            after = ap the_view w.self-inside-is ∙ ap (λ bs. with_books s bs s.current) same ∙ none_after s d h b at f ∙ called;
          }
    ]
