-- A hold is closed on the book that granted it.
use Rattle.std.proofs.Common.{◌≡◌, ℕ, List, set, Some, Option, Result, sym, ap, ◌∙◌}
use Rattle.std.specs.List.{slice_get}
use Rattle.book.specs.declared.hold.Hold.{Hold}
use Rattle.book.specs.declared.hold.Refused.{Refused}
use Rattle.book.specs.Books.{Model, lift}
use Rattle.replies.specs.declared.hand.Held.{Held}
use Rattle.replies.specs.Hands.{held}
use Rattle.script.specs.Closing.{closing, closing_on, closed_reply, lifted_on, closed_books}

module _ (bs : List Model) (k : ℕ) (b : Model) (x : Hold) (here : Option Held) where
  pub closes : (h : ℕ) (o : Result (Unit {0}) Refused) → here ≡ Some (held x k) → slice_get bs k ≡ Some b → o ≡ (lift b x).answer → Some (closing h o) ≡ closed_reply h bs here
  closes h o e at l = sym (ap (closed_reply h bs) e ∙ ap (λ m. Some (closing_on h x m)) at ∙ ap (λ a. Some (closing h a)) (sym l))

  pub closed_so : here ≡ Some (held x k) → slice_get bs k ≡ Some b → set bs k (lift b x).after ≡ closed_books bs here
  closed_so e at = sym (ap (closed_books bs) e ∙ ap (lifted_on bs x k) at)
