-- A script as it is run: which book is current, what each command does, and what it answers.
use Rattle.std.specs.Prelude.{◌≡◌, ℕ, ◌+◌, ◌-◌, ◌^◌, ◌<◌, min, Bool, true, false, List, [], ◌∷◌, ◌++◌, length, Some, None, Ok, Err, Option, Result, ◌≢◌, slice_set}
use Rattle.std.specs.Option.{option_map}
use Rattle.std.specs.List.{slice_get}
use Rattle.logic.specs.Formulas.{WellFormed}
use Rattle.logic.specs.Meanings.{Sequent as Seq}
use Rattle.calculus.specs.declared.refusal.Refusal.{Refusal as DerivationRefusal}
use Rattle.calculus.specs.declared.step.Step.{Step}
use Rattle.rules.specs.Theories.{standard}
use Rattle.states.specs.declared.refusal.Refusal.{Refusal}
use Rattle.states.specs.Refusals.{notice}
use Rattle.book.specs.declared.hold.Hold.{Hold}
use Rattle.book.specs.Books.{Model, new_book, hold}
use Rattle.book.specs.Concluding.{Judges, conclude}
use Rattle.book.specs.Runs.{Event, Run}
use Rattle.commands.specs.declared.command.Call.{Call}
use Rattle.commands.specs.declared.command.Command.{Command}
use Rattle.commands.specs.declared.command.Command.TheVariants as commands
use Rattle.commands.specs.declared.command.HoldCall.{HoldCall}
use Rattle.replies.specs.declared.hand.Held.{Held}
use Rattle.replies.specs.declared.reply.Reply.{Reply}
use Rattle.replies.specs.declared.reply.Reply.TheVariants as replies
use Rattle.replies.specs.Books.{Answers, Verdict, after, entered}
use Rattle.commands.specs.Commands.{Request, silent, not_understood, asks, append, draw, request, without_ending}
use Rattle.replies.specs.Hands.{held, undergo}
use Rattle.script.specs.Closing.{closed_reply, closed_books}
use Rattle.commands.specs.Words.{Bytes}

-- the books, which of them is the current one, the derivation that is being written, the holds by their numbers,
-- how many lines were read, and whether all were understood
pub record Session : Type 0 where
  pub books : List Model
  pub current : ℕ
  pub steps : List Step
  pub hypotheses : List ℕ
  pub holds : List (Option Held)
  pub lines : ℕ
  pub understood : Bool

abbrev pub start : Session
start = record { books = []; current = 0; steps = []; hypotheses = []; holds = []; lines = 0; understood = true }

-- a session with other books, with another derivation, and with other holds
abbrev pub with_books : Session → List Model → ℕ → Session
with_books s bs k = record { books = bs; current = k; steps = s.steps; hypotheses = s.hypotheses; holds = s.holds; lines = s.lines; understood = s.understood }

abbrev pub with_derivation : Session → List Step → List ℕ → Session
with_derivation s xs hs = record { books = s.books; current = s.current; steps = xs; hypotheses = hs; holds = s.holds; lines = s.lines; understood = s.understood }

abbrev pub with_holds : Session → List (Option Held) → Session
with_holds s xs = record { books = s.books; current = s.current; steps = s.steps; hypotheses = s.hypotheses; holds = xs; lines = s.lines; understood = s.understood }

-- a session whose current book has become b
abbrev pub with_book : Session → Model → Session
with_book s b = with_books s (slice_set s.books s.current b) s.current

-- the current book, if there is one
abbrev pub current_book : Session → Option Model
current_book s = slice_get s.books s.current

abbrev pub number : Model → ℕ
number b = b.number

abbrev number_of : Option Model → Reply
number_of None = replies.NoSuchBook
number_of (Some b) = replies.Book (number b)

abbrev pub used : Session → ℕ → Reply
used s k = number_of (slice_get s.books k)

abbrev pub chosen : Session → ℕ → Option Model → ℕ
chosen s k None = s.current
chosen s k (Some b) = k

-- r is what a book answers, if there is one, and the session after a call on it
abbrev pub Asked : Option Model → Call → Reply → Type 0
Asked None c r = r ≡ replies.NoSuchBook
Asked (Some b) c r = Answers b c r

abbrev pub called : Session → Call → Option Model → Session
called s c None = s
called s c (Some b) = with_book s (after b c)

-- r is what the current book answers
abbrev pub Passed : Session → Call → Reply → Type 0
Passed s c r = Asked (current_book s) c r

-- r is the verdict of a book, if there is one
abbrev pub Judged : Option Model → List Step → List ℕ → Reply → Type 0
Judged None xs hs r = r ≡ replies.NoSuchBook
Judged (Some b) xs hs r = Verdict b xs hs r

-- r is the verdict of the current book on the derivation
abbrev pub Tried : Session → Reply → Type 0
Tried s r = Judged (current_book s) s.steps s.hypotheses r

-- what is left of a list of the derivation when a book, if there is one, has judged it
abbrev pub left : {A : Type 0} → Option Model → List A → List A
left None xs = xs
left (Some b) xs = []

-- a hold that is granted is in hand under the next number
abbrev pub granting_reply : ℕ → Result Hold Refusal → Reply
granting_reply n (Ok x) = replies.Hold n
granting_reply n (Err e) = replies.Refused (notice e)

abbrev pub granting_hand : ℕ → Result Hold Refusal → List (Option Held)
granting_hand k (Ok x) = Some (held x k) ∷ []
granting_hand k (Err e) = []

abbrev pub held_reply_by : Session → ℕ → Option Model → Reply
held_reply_by s e None = replies.NoSuchBook
held_reply_by s e (Some b) = granting_reply (length s.holds) (hold b e).answer

abbrev pub held_by : Session → ℕ → Option Model → Session
held_by s e None = s
held_by s e (Some b) = with_holds (with_book s (hold b e).after) (s.holds ++ granting_hand s.current (hold b e).answer)

abbrev pub held_reply : Session → ℕ → Reply
held_reply s e = held_reply_by s e (current_book s)

-- what is done with the hold h in hand, by a book
abbrev pub hold_call_reply_by : HoldCall → Option Model → Option (Option Held) → Reply
hold_call_reply_by d None x = replies.NoSuchBook
hold_call_reply_by d (Some b) None = replies.NoSuchHold
hold_call_reply_by d (Some b) (Some x) = (undergo d b x).reply

abbrev pub hold_called : Session → HoldCall → ℕ → Option Model → Option (Option Held) → Session
hold_called s d h None x = s
hold_called s d h (Some b) None = s
hold_called s d h (Some b) (Some x) = with_holds (with_book s (undergo d b x).book) (slice_set s.holds h (undergo d b x).hand)

abbrev pub hold_call_reply : Session → HoldCall → ℕ → Reply
hold_call_reply s d h = hold_call_reply_by d (current_book s) (slice_get s.holds h)

-- r is the reply to a command, if it has one
abbrev pub Replies : Session → Command → Option Reply → Type 0
Replies s (commands.Book n) r = r ≡ Some (replies.Book n)
Replies s (commands.Use k) r = r ≡ Some (used s k)
Replies s (commands.Call c) r = (reply : Reply) × (r ≡ Some reply) × Passed s c reply
Replies s (commands.Step x) r = r ≡ None
Replies s commands.Check r = (reply : Reply) × (r ≡ Some reply) × Tried s reply
Replies s (commands.Hold e) r = r ≡ Some (held_reply s e)
Replies s (commands.HoldCall d h) r = r ≡ Some (hold_call_reply s d h)

-- the session after a command
abbrev pub done : Session → Command → Session
done s (commands.Book n) = with_books s (s.books ++ new_book n ∷ []) (length s.books)
done s (commands.Use k) = with_books s s.books (chosen s k (slice_get s.books k))
done s (commands.Call c) = called s c (current_book s)
done s (commands.Step x) = with_derivation s (s.steps ++ x ∷ []) s.hypotheses
done s commands.Check = with_derivation s (left (current_book s) s.steps) (left (current_book s) s.hypotheses)
done s (commands.Hold e) = held_by s e (current_book s)
done s (commands.HoldCall d h) = hold_called s d h (current_book s) (slice_get s.holds h)

-- the session after numbers were appended to the hypotheses
abbrev pub appended : Session → List ℕ → Session
appended s ns = with_derivation s s.steps (s.hypotheses ++ ns)

-- a book that judges the derivation so answers r, and leaves the session t; refused or not, a new derivation begins
pub record Concluded (s : Session) (cites : List ℕ) (b : Model) (verdict : Result Seq DerivationRefusal) (r : Reply) (t : Session) : Type 0 where
  pub judges : Judges standard b.vocabulary s.steps s.hypotheses cites verdict
  pub reply : r ≡ entered (conclude b verdict cites).answer
  pub after : t ≡ with_derivation (with_book s (conclude b verdict cites).after) [] []

-- r is what a book answers, if there is one, when the derivation is handed over with citations, and t the session then
abbrev pub Concludes : Session → List ℕ → Option Model → Reply → Session → Type 0
Concludes s cites None r t = (r ≡ replies.NoSuchBook) × (t ≡ s)
Concludes s cites (Some b) r t = (verdict : Result Seq DerivationRefusal) × Concluded s cites b verdict r t

-- the number of the next line
abbrev pub next_line : Session → ℕ
next_line s = min (s.lines + 1) (2 ^ 64 - 1)

abbrev pub counted : ℕ → Session → Session
counted n s = record { books = s.books; current = s.current; steps = s.steps; hypotheses = s.hypotheses; holds = s.holds; lines = n; understood = s.understood }

abbrev pub misread : Session → Session
misread s = record { books = s.books; current = s.current; steps = s.steps; hypotheses = s.hypotheses; holds = s.holds; lines = s.lines; understood = false }

-- r is printed for what a line asks, and the session is then t, its lines not yet counted
abbrev pub Did : Session → Request → Option Reply → Session → Type 0
Did s silent r t = (r ≡ None) × (t ≡ s)
Did s not_understood r t = (r ≡ Some (replies.NotUnderstood (next_line s))) × (t ≡ misread s)
Did s (asks c) r t = Replies s c r × (t ≡ done s c)
Did s (append ns) r t = (r ≡ None) × (t ≡ appended s ns)
Did s (draw ns) r t = (reply : Reply) × (r ≡ Some reply) × Concludes s ns (current_book s) reply t

-- r is printed for a line, and the session is then t
abbrev pub Follows : Session → Request → Option Reply → Session → Type 0
Follows s q r t = (u : Session) × Did s q r u × (t ≡ counted (next_line s) u)

-- a line changes no book but the current one
abbrev pub OthersStay : Type 0
OthersStay = (s : Session) (q : Request) (r : Option Reply) (t : Session) → Follows s q r t → (k : ℕ) → k < length s.books → (k ≢ s.current) → slice_get t.books k ≡ slice_get s.books k

-- a book keeps its place and its number
abbrev pub NumbersStay : Type 0
NumbersStay = (s : Session) (q : Request) (r : Option Reply) (t : Session) → Follows s q r t → (k : ℕ) → k < length s.books → option_map number (slice_get t.books k) ≡ option_map number (slice_get s.books k)

-- t is the session after the lines of a script
abbrev pub After : Session → List Bytes → Session → Type 0
After s [] t = t ≡ s
After s (x ∷ xs) t = (r : Option Reply) × (u : Session) × Follows s (request (without_ending x)) r u × After u xs t

-- once a book is begun, one of the books is the current one
abbrev pub AlwaysCurrent : Type 0
AlwaysCurrent = (xs : List Bytes) (t : Session) → After start xs t → 0 < length t.books → t.current < length t.books

-- after any script, each book is what a run of calls on a new book has left, so that the law of books holds of it
abbrev pub AlwaysRun : Type 0
AlwaysRun = (xs : List Bytes) (t : Session) → After start xs t → (k : ℕ) (b : Model) → slice_get t.books k ≡ Some b → (calls : List Event) × Run standard b.number calls b

-- and its vocabulary is well formed
abbrev pub AlwaysWellFormed : Type 0
AlwaysWellFormed = (xs : List Bytes) (t : Session) → After start xs t → (k : ℕ) (b : Model) → slice_get t.books k ≡ Some b → WellFormed b.vocabulary

-- what is printed when the hold h is closed, and the session then
abbrev pub closed_reply_of : Session → ℕ → Option (Option Held) → Option Reply
closed_reply_of s h None = None
closed_reply_of s h (Some x) = closed_reply h s.books x

abbrev pub closed_of : Session → ℕ → Option (Option Held) → Session
closed_of s h None = s
closed_of s h (Some x) = with_holds (with_books s (closed_books s.books x) s.current) (slice_set s.holds h None)

abbrev pub closed : Session → ℕ → Option Reply
closed s h = closed_reply_of s h (slice_get s.holds h)

abbrev pub closed_at : Session → ℕ → Session
closed_at s h = closed_of s h (slice_get s.holds h)
