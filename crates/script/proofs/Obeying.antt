-- What a line asks, done to a session.
use Rattle.std.proofs.Common.{◌≡◌, ℕ, List, Some, None, Option, ap, ◌∙◌, subst}
use Rattle.commands.specs.declared.command.Line.TheVariants as lines
use Rattle.commands.specs.Commands.{Request, silent, not_understood, asks, append, draw, line_of}
use Rattle.commands.proofs.Requests.{Has}
use Rattle.replies.specs.declared.reply.Reply.{Reply}
use Rattle.script.specs.Sessions.{Session, Concludes, Did, appended, current_book}

module _ (s t : Session) (r : Option Reply) where
  pub did_append : (q : Request) (ns : List ℕ) → lines.Hypotheses ≡ line_of q → Has q ns → r ≡ None → t ≡ appended s ns → Did s q r t
  did_append silent ns h m e f = cc
  did_append not_understood ns h m e f = cc
  did_append (asks c) ns h m e f = cc
  did_append (append ms) ns h m e f = (e, f ∙ ap (appended s) m)
  did_append (draw ms) ns h m e f = cc

  pub did_conclude : (q : Request) (ns : List ℕ) (reply : Reply) → lines.Conclude ≡ line_of q → Has q ns → r ≡ Some reply → Concludes s ns (current_book s) reply t → Did s q r t
  did_conclude silent ns reply h m e f = cc
  did_conclude not_understood ns reply h m e f = cc
  did_conclude (asks c) ns reply h m e f = cc
  did_conclude (append ms) ns reply h m e f = cc
  did_conclude (draw ms) ns reply h m e f = (reply, e, subst (λ l. Concludes s l (current_book s) reply t) m f)
