-- A hold in hand, and what is done with it.
use Rattle.std.specs.Prelude.{ℕ, Some, None, Option, Ok, Err, Result}
use Rattle.states.specs.declared.refusal.Refusal.{Refusal}
use Rattle.states.specs.Refusals.{notice}
use Rattle.book.specs.declared.hold.Refused.{Refused}
use Rattle.book.specs.Books.{Model, preview, lift, withdraw}
use Rattle.commands.specs.declared.command.HoldCall.{HoldCall}
use Rattle.commands.specs.declared.command.HoldCall.TheVariants.{Preview, Lift, Withdraw}
use Rattle.book.specs.declared.hold.Hold.{Hold}
use Rattle.replies.specs.declared.hand.Held.{Held}
use Rattle.replies.specs.declared.reply.Reply.{Reply}
use Rattle.replies.specs.declared.reply.Reply.TheVariants as replies

-- a hold, and the place of the book that granted it
abbrev pub held : Hold → ℕ → Held
held x k = record { hold = x; granted_by = k }

-- the reply, the book afterwards, and what is then in hand
pub record Outcome : Type 0 where
  pub reply : Reply
  pub book : Model
  pub hand : Option Held

abbrev pub foretold : Result (ℕ × ℕ) Refusal → Reply
foretold (Ok p) = replies.Falls p.0 p.1
foretold (Err e) = replies.Refused (notice e)

-- a hold that is refused stays in hand
abbrev pub lifted : Result (Unit {0}) Refused → Option Held → Model → Outcome
lifted (Ok u) was b = record { reply = replies.Lifted; book = b; hand = None }
lifted (Err e) was b = record { reply = replies.Refused (notice e.refusal); book = b; hand = was }

abbrev pub withdrawn : Result (ℕ × ℕ) Refused → Option Held → Model → Outcome
withdrawn (Ok p) was b = record { reply = replies.Fell p.0 p.1; book = b; hand = None }
withdrawn (Err e) was b = record { reply = replies.Refused (notice e.refusal); book = b; hand = was }

-- what is done with a hold, on a book
abbrev pub undergo : HoldCall → Model → Option Held → Outcome
undergo d b None = record { reply = replies.NoSuchHold; book = b; hand = None }
undergo Preview b (Some x) = record { reply = foretold (preview b x.hold); book = b; hand = Some x }
undergo Lift b (Some x) = lifted (lift b x.hold).answer (Some x) (lift b x.hold).after
undergo Withdraw b (Some x) = withdrawn (withdraw b x.hold).answer (Some x) (withdraw b x.hold).after
