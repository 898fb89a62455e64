-- The holds of a session: which books granted them, and how they are closed.
use Rattle.std.specs.Prelude.{ℕ, ◌<◌, Bool, true, ◌&&◌, List, [], ◌∷◌, Some, None, Ok, Err, Option, Result, nat_lt, slice_set}
use Rattle.std.specs.List.{slice_get}
use Rattle.book.specs.declared.hold.Hold.{Hold}
use Rattle.book.specs.declared.hold.Refused.{Refused}
use Rattle.book.specs.Books.{Model, lift}
use Rattle.replies.specs.declared.hand.Held.{Held}
use Rattle.replies.specs.declared.reply.Reply.{Reply}
use Rattle.replies.specs.declared.reply.Reply.TheVariants as replies

-- it was granted by one of the first n books
abbrev pub GrantedBy : ℕ → Option Held → Type 0
GrantedBy n None = Unit {0}
GrantedBy n (Some x) = x.granted_by < n

abbrev pub AllGranted : ℕ → List (Option Held) → Type 0
AllGranted n [] = Unit {0}
AllGranted n (x ∷ xs) = GrantedBy n x × AllGranted n xs

-- the same, as a test
abbrev pub granted_by : ℕ → Option Held → Bool
granted_by n None = true
granted_by n (Some x) = nat_lt x.granted_by n

abbrev pub all_granted : ℕ → List (Option Held) → Bool
all_granted n [] = true
all_granted n (x ∷ xs) = granted_by n x && all_granted n xs

-- what is printed when the hold with the number h is closed: it is lifted on the book that granted it, or else discarded
abbrev pub closing : ℕ → Result (Unit {0}) Refused → Reply
closing h (Ok u) = replies.LiftedAtClose h
closing h (Err e) = replies.DiscardedAtClose h

abbrev pub closing_on : ℕ → Hold → Option Model → Reply
closing_on h x None = replies.DiscardedAtClose h
closing_on h x (Some b) = closing h (lift b x).answer

abbrev pub closed_reply : ℕ → List Model → Option Held → Option Reply
closed_reply h bs None = None
closed_reply h bs (Some x) = Some (closing_on h x.hold (slice_get bs x.granted_by))

abbrev pub lifted_on : List Model → Hold → ℕ → Option Model → List Model
lifted_on bs x k None = bs
lifted_on bs x k (Some b) = slice_set bs k (lift b x).after

-- the books afterwards
abbrev pub closed_books : List Model → Option Held → List Model
closed_books bs None = bs
closed_books bs (Some x) = lifted_on bs x.hold x.granted_by (slice_get bs x.granted_by)
