-- The text of a reply.
use Rattle.std.specs.Prelude.{◌++◌, codes, decimal}
use Rattle.formulas.specs.Refusals.{notice_text}
use Rattle.states.specs.Texts.{facts_text}
use Rattle.replies.specs.declared.reply.Thing.{Thing}
use Rattle.replies.specs.declared.reply.Thing.TheVariants as things
use Rattle.replies.specs.declared.reply.Reply.{Reply}
use Rattle.replies.specs.declared.reply.Reply.TheVariants.{Book, NoSuchBook, Numbered, Yes, No, Right, Hold, Falls, Lifted, Fell, Entry, NoEntry, NoSuchHold, LiftedAtClose, DiscardedAtClose, Refused, NotUnderstood}
use Rattle.commands.specs.Words.{Bytes}

abbrev pub thing_text : Thing → Bytes
thing_text things.Type = codes "type"
thing_text things.Variable = codes "variable"
thing_text things.Set = codes "set"
thing_text things.Formula = codes "formula"
thing_text things.Entry = codes "entry"

abbrev pub reply_text : Reply → Bytes
reply_text (Book n) = codes "book " ++ decimal n
reply_text NoSuchBook = codes "no such book"
reply_text (Numbered t n) = thing_text t ++ (codes " " ++ decimal n)
reply_text Yes = codes "yes"
reply_text No = codes "no"
reply_text Right = codes "right"
reply_text (Hold h) = codes "hold " ++ decimal h
reply_text (Falls count lowest) = codes "falls " ++ (decimal count ++ (codes " " ++ decimal lowest))
reply_text Lifted = codes "lifted"
reply_text (Fell count lowest) = codes "fell " ++ (decimal count ++ (codes " " ++ decimal lowest))
reply_text (Entry f) = facts_text f
reply_text NoEntry = codes "none"
reply_text NoSuchHold = codes "no such hold"
reply_text (LiftedAtClose h) = codes "lifted " ++ (decimal h ++ codes " at close")
reply_text (DiscardedAtClose h) = codes "discarded " ++ (decimal h ++ codes " at close")
reply_text (Refused r) = codes "refused " ++ notice_text r
reply_text (NotUnderstood l) = codes "line " ++ (decimal l ++ codes ": not understood")
