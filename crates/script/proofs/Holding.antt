-- A session that holds, deals with a hold, or concludes.
use Rattle.std.proofs.Common.{◌≡◌, ℕ, List, [], ◌++◌, length, set, Some, None, Option, Result, sym, ap, ◌∙◌, subst}
use Rattle.std.specs.List.{slice_get}
use Rattle.calculus.specs.declared.step.Step.{Step}
use Rattle.rules.specs.Theories.{standard}
use Rattle.states.specs.declared.refusal.Refusal.{Refusal}
use Rattle.book.specs.declared.hold.Hold.{Hold}
use Rattle.book.specs.Books.{Model, hold}
use Rattle.book.specs.Runs.{concludes, Does}
use Rattle.commands.specs.declared.command.HoldCall.{HoldCall}
use Rattle.replies.specs.declared.hand.Held.{Held}
use Rattle.replies.specs.declared.reply.Reply.{Reply}
use Rattle.replies.specs.Books.{entered}
use Rattle.replies.specs.Hands.{undergo}
use Rattle.script.specs.Closing.{closed_reply, closed_books}
use Rattle.script.specs.Sessions.{Session, current_book, with_books, with_book, with_holds, with_derivation, granting_reply, granting_hand, held_reply_by, held_reply, held_by, hold_call_reply_by, hold_call_reply, hold_called, Concludes, closed_reply_of, closed_of, closed, closed_at}

module _ (s : Session) (e : ℕ) (b : Model) (at : current_book s ≡ Some b) (o : Result Hold Refusal) (is : o ≡ (hold b e).answer) where
  pub granted_reply : (n : ℕ) → n ≡ length s.holds → granting_reply n o ≡ held_reply s e
  granted_reply n l = ap (λ k. granting_reply k o) l ∙ ap (granting_reply (length s.holds)) is ∙ sym (ap (held_reply_by s e) at)

  pub granted_after : (bs : List Model) (xs : List (Option Held)) → bs ≡ set s.books s.current (hold b e).after → xs ≡ s.holds ++ granting_hand s.current o → with_holds (with_books s bs s.current) xs ≡ held_by s e (current_book s)
  granted_after bs xs f g =
      ap (λ l. with_holds (with_books s l s.current) xs) f
      ∙ ap (with_holds (with_book s (hold b e).after)) (g ∙ ap (λ a. s.holds ++ granting_hand s.current a) is)
      ∙ sym (ap (held_by s e) at)

module _ (s : Session) (d : HoldCall) (h : ℕ) (b : Model) (at : current_book s ≡ Some b) where
  pub some_reply : (x : Option Held) → slice_get s.holds h ≡ Some x → (undergo d b x).reply ≡ hold_call_reply s d h
  some_reply x f = sym (ap (λ o. hold_call_reply_by d o (slice_get s.holds h)) at ∙ ap (hold_call_reply_by d (Some b)) f)

  pub some_after : (x y : Option Held) (bs : List Model) → slice_get s.holds h ≡ Some x → y ≡ (undergo d b x).hand → bs ≡ set s.books s.current (undergo d b x).book → with_holds (with_books s bs s.current) (set s.holds h y) ≡ hold_called s d h (current_book s) (slice_get s.holds h)
  some_after x y bs f g l =
      ap (λ m. with_holds (with_books s m s.current) (set s.holds h y)) l
      ∙ ap (λ z. with_holds (with_book s (undergo d b x).book) (set s.holds h z)) g
      ∙ sym (ap (λ o. hold_called s d h o (slice_get s.holds h)) at ∙ ap (hold_called s d h (Some b)) f)

  pub none_reply : slice_get s.holds h ≡ None → hold_call_reply_by d (Some b) None ≡ hold_call_reply s d h
  none_reply f = sym (ap (λ o. hold_call_reply_by d o (slice_get s.holds h)) at ∙ ap (hold_call_reply_by d (Some b)) f)

  pub none_after : slice_get s.holds h ≡ None → s ≡ hold_called s d h (current_book s) (slice_get s.holds h)
  none_after f = sym (ap (λ o. hold_called s d h o (slice_get s.holds h)) at ∙ ap (hold_called s d h (Some b)) f)

-- a new derivation is begun
pub emptied : (s : Session) (bs cs : List Model) (xs : List Step) (hs : List ℕ) → bs ≡ cs → xs ≡ [] → hs ≡ [] → with_derivation (with_books s bs s.current) xs hs ≡ with_derivation (with_books s cs s.current) [] []
emptied s bs cs xs hs e f g =
    ap (λ l. with_derivation (with_books s l s.current) xs hs) e
    ∙ ap (λ l. with_derivation (with_books s cs s.current) l hs) f
    ∙ ap (with_derivation (with_books s cs s.current) []) g

pub concluded_here : (s t : Session) (b c : Model) (xs : List Step) (hs cites : List ℕ) (a : Result ℕ Refusal) (r : Reply) → current_book s ≡ Some b → xs ≡ s.steps → hs ≡ s.hypotheses → Does standard b (concludes xs hs cites a) c → r ≡ entered a → t ≡ with_derivation (with_book s c) [] [] → Concludes s cites (current_book s) r t
concluded_here s t b c xs hs cites a r at e f d q u =
    let d' : Does standard b (concludes s.steps s.hypotheses cites a) c =
    subst (λ l. Does standard b (concludes s.steps l cites a) c) f (subst (λ l. Does standard b (concludes l hs cites a) c) e d) in
    subst (λ o. Concludes s cites o r t) (sym at) (
      d'.0,
      record { judges = d'.1; reply = q ∙ ap entered d'.2.0; after = u ∙ ap (λ m. with_derivation (with_book s m) [] []) d'.2.1 },
    )

module _ (s : Session) (h : ℕ) (x : Option Held) (f : slice_get s.holds h ≡ Some x) where
  pub closed_here : closed_reply h s.books x ≡ closed s h
  closed_here = sym (ap (closed_reply_of s h) f)

  pub closed_after : (bs : List Model) (y : Option Held) → bs ≡ closed_books s.books x → y ≡ None → with_holds (with_books s bs s.current) (set s.holds h y) ≡ closed_at s h
  closed_after bs y e g =
      ap (λ l. with_holds (with_books s l s.current) (set s.holds h y)) e
      ∙ ap (λ z. with_holds (with_books s (closed_books s.books x) s.current) (set s.holds h z)) g
      ∙ sym (ap (closed_of s h) f)
