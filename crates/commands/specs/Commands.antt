-- What a line asks.
use Rattle.std.specs.Prelude.{◌≡◌, ℕ, ◌^◌, ◌<◌, Bool, cond, ◌||◌, List, [], ◌∷◌, ◌++◌, Some, None, codes, decimal, Option, ◌==◌, slice_index}
use Rattle.std.specs.Option.{option_map}
use Rattle.std.specs.Str.{bytes_eq}
use Rattle.calculus.specs.declared.step.Step.{Step}
use Rattle.commands.specs.declared.command.Call.{Call}
use Rattle.commands.specs.declared.command.Call.TheVariants as calls
use Rattle.commands.specs.declared.command.Command.{Command}
use Rattle.commands.specs.declared.command.Command.TheVariants as commands
use Rattle.commands.specs.declared.command.HoldCall.{HoldCall}
use Rattle.commands.specs.declared.command.HoldCall.TheVariants.{Preview, Lift, Withdraw}
use Rattle.commands.specs.declared.command.Line.{Line}
use Rattle.commands.specs.declared.command.Line.TheVariants as lines
use Rattle.commands.specs.Verbs.{CallVerb, Carrier, Product, Variable, Set, Formula, Free, Substitution, Give, Entry, Predicate, Verb}
use Rattle.commands.specs.Verbs as verb
use Rattle.commands.specs.Words.{Bytes, words, numbers, all_numbers}

-- what a line asks: nothing, what cannot be understood, a command, numbers to append to the hypotheses,
-- or a conclusion with these citations
pub data Request : Type 0 where
  silent : Request
  not_understood : Request
  asks : Command → Request
  append : List ℕ → Request
  draw : List ℕ → Request

-- the same, the numbers left out
abbrev pub line_of : Request → Line
line_of silent = lines.Silent
line_of not_understood = lines.NotUnderstood
line_of (asks c) = lines.Asks c
line_of (append ns) = lines.Hypotheses
line_of (draw ns) = lines.Conclude

-- the word of each call, and of each command
abbrev pub call_word : CallVerb → Bytes
call_word Carrier = codes "carrier"
call_word Product = codes "product"
call_word Variable = codes "variable"
call_word Set = codes "set"
call_word Formula = codes "formula"
call_word Free = codes "free"
call_word Substitution = codes "substitution"
call_word Give = codes "give"
call_word Entry = codes "entry"
call_word Predicate = codes "predicate"

abbrev pub hold_call_word : HoldCall → Bytes
hold_call_word Preview = codes "preview"
hold_call_word Lift = codes "lift"
hold_call_word Withdraw = codes "withdraw"

abbrev pub word_of : Verb → Bytes
word_of verb.Book = codes "book"
word_of verb.Use = codes "use"
word_of (verb.Call v) = call_word v
word_of verb.Step = codes "step"
word_of verb.Check = codes "check"
word_of verb.Hold = codes "hold"
word_of (verb.WithHold d) = hold_call_word d

abbrev pub verbs : List Verb
verbs =
    verb.Book ∷ verb.Use
    ∷ verb.Call Carrier ∷ verb.Call Product ∷ verb.Call Variable ∷ verb.Call Set ∷ verb.Call Formula ∷ verb.Call Free ∷ verb.Call Substitution
    ∷ verb.Call Give ∷ verb.Call Entry ∷ verb.Call Predicate
    ∷ verb.Step ∷ verb.Check
    ∷ verb.Hold ∷ verb.WithHold Preview ∷ verb.WithHold Lift ∷ verb.WithHold Withdraw ∷ []

abbrev pub one_named : Bytes → List Verb → Option Verb
one_named w [] = None
one_named w (v ∷ vs) = cond (bytes_eq w (word_of v)) (Some v) (one_named w vs)

abbrev pub verb_named : Bytes → Option Verb
verb_named w = one_named w verbs

-- how many numbers a call takes, and a command
abbrev pub call_count : CallVerb → ℕ
call_count Carrier = 0
call_count Product = 2
call_count Variable = 1
call_count Set = 1
call_count Formula = 3
call_count Free = 2
call_count Substitution = 4
call_count Give = 1
call_count Entry = 1
call_count Predicate = 1

abbrev pub count : Verb → ℕ
count verb.Book = 1
count verb.Use = 1
count (verb.Call v) = call_count v
count verb.Step = 9
count verb.Check = 0
count verb.Hold = 1
count (verb.WithHold d) = 1

-- how many bits each of them has
abbrev pub bits : Verb → ℕ
bits verb.Book = 32
bits verb.Use = 16
bits (verb.Call v) = 16
bits verb.Step = 16
bits verb.Check = 16
bits verb.Hold = 16
bits (verb.WithHold d) = 16

abbrev at : List ℕ → ℕ → ℕ
at ns i = slice_index ns i

-- the call with its numbers, the step, and the command
abbrev pub call_with : CallVerb → List ℕ → Call
call_with Carrier ns = calls.Carrier
call_with Product ns = calls.Product (at ns 0) (at ns 1)
call_with Variable ns = calls.Variable (at ns 0)
call_with Set ns = calls.Set (at ns 0)
call_with Formula ns = calls.Formula (at ns 0) (at ns 1) (at ns 2)
call_with Free ns = calls.Free (at ns 0) (at ns 1)
call_with Substitution ns = calls.Substitution (at ns 0) (at ns 1) (at ns 2) (at ns 3)
call_with Give ns = calls.Give (at ns 0)
call_with Entry ns = calls.Entry (at ns 0)
call_with Predicate ns = calls.Predicate (at ns 0)

abbrev pub step_with : List ℕ → Step
step_with ns =
    record {
      rule = at ns 0;
      goal = at ns 1;
      start = at ns 2;
      count = at ns 3;
      first = at ns 4;
      second = at ns 5;
      a = at ns 6;
      b = at ns 7;
      c = at ns 8;
    }

abbrev pub with_numbers : Verb → List ℕ → Command
with_numbers verb.Book ns = commands.Book (at ns 0)
with_numbers verb.Use ns = commands.Use (at ns 0)
with_numbers (verb.Call v) ns = commands.Call (call_with v ns)
with_numbers verb.Step ns = commands.Step (step_with ns)
with_numbers verb.Check ns = commands.Check
with_numbers verb.Hold ns = commands.Hold (at ns 0)
with_numbers (verb.WithHold d) ns = commands.HoldCall d (at ns 0)

abbrev pub step_of : List Bytes → Option Step
step_of ws = option_map step_with (numbers 16 9 ws)

abbrev pub command_of : Verb → List Bytes → Option Command
command_of v ws = option_map (with_numbers v) (numbers (bits v) (count v) ws)

abbrev pub of_verb : Option Verb → List Bytes → Option Command
of_verb None ws = None
of_verb (Some v) ws = command_of v ws

-- the command that a first word and the words after it make
abbrev pub command : Bytes → List Bytes → Option Command
command w ws = of_verb (verb_named w) ws

abbrev pub understood : Option Command → Request
understood None = not_understood
understood (Some c) = asks c

-- the word of a list of hypotheses, and of citations
abbrev pub list_word : Bytes
list_word = codes "hypotheses"

abbrev pub conclude_word : Bytes
conclude_word = codes "conclude"

abbrev pub listed : (List ℕ → Request) → Option (List ℕ) → Request
listed asking None = not_understood
listed asking (Some ns) = asking ns

-- the same, the numbers left out
abbrev pub list_line : Line → Option (List ℕ) → Line
list_line l None = lines.NotUnderstood
list_line l (Some ns) = l

abbrev pub request_words : List Bytes → Request
request_words [] = silent
request_words (w ∷ ws) =
    cond (bytes_eq w list_word) (listed append (all_numbers ws)) (cond (bytes_eq w conclude_word) (listed draw (all_numbers ws)) (understood (command w ws)))

-- what a line asks; a comment begins with '#'
abbrev pub request : Bytes → Request
request [] = silent
request (b ∷ bs) = cond (b == 35) silent (request_words (words (b ∷ bs)))

abbrev pub is_ending : Bytes → Bool
is_ending bs = bytes_eq bs (10 ∷ []) || bytes_eq bs (13 ∷ 10 ∷ [])

-- a line as far as its ending, a newline or a carriage return and a newline
abbrev pub without_ending : Bytes → Bytes
without_ending [] = []
without_ending (b ∷ bs) = cond (is_ending (b ∷ bs)) [] (b ∷ without_ending bs)

-- numbers in decimal, a space before each
abbrev pub spaced : List ℕ → Bytes
spaced [] = []
spaced (n ∷ []) = 32 ∷ decimal n
spaced (n ∷ m ∷ ns) = 32 ∷ (decimal n ++ spaced (m ∷ ns))

abbrev pub text_of : Verb → List ℕ → Bytes
text_of v ns = word_of v ++ spaced ns

-- the verb of a call or a command, and its numbers
abbrev pub call_verb : Call → CallVerb
call_verb calls.Carrier = Carrier
call_verb (calls.Product s t) = Product
call_verb (calls.Variable t) = Variable
call_verb (calls.Set t) = Set
call_verb (calls.Formula k p q) = Formula
call_verb (calls.Free x n) = Free
call_verb (calls.Substitution q p x e) = Substitution
call_verb (calls.Give p) = Give
call_verb (calls.Entry e) = Entry
call_verb (calls.Predicate p) = Predicate

abbrev pub call_numbers : Call → List ℕ
call_numbers calls.Carrier = []
call_numbers (calls.Product s t) = s ∷ t ∷ []
call_numbers (calls.Variable t) = t ∷ []
call_numbers (calls.Set t) = t ∷ []
call_numbers (calls.Formula k p q) = k ∷ p ∷ q ∷ []
call_numbers (calls.Free x n) = x ∷ n ∷ []
call_numbers (calls.Substitution q p x e) = q ∷ p ∷ x ∷ e ∷ []
call_numbers (calls.Give p) = p ∷ []
call_numbers (calls.Entry e) = e ∷ []
call_numbers (calls.Predicate p) = p ∷ []

abbrev pub step_numbers : Step → List ℕ
step_numbers x = x.rule ∷ x.goal ∷ x.start ∷ x.count ∷ x.first ∷ x.second ∷ x.a ∷ x.b ∷ x.c ∷ []

abbrev pub verb_of : Command → Verb
verb_of (commands.Book n) = verb.Book
verb_of (commands.Use k) = verb.Use
verb_of (commands.Call c) = verb.Call (call_verb c)
verb_of (commands.Step x) = verb.Step
verb_of commands.Check = verb.Check
verb_of (commands.Hold e) = verb.Hold
verb_of (commands.HoldCall d h) = verb.WithHold d

abbrev pub numbers_of : Command → List ℕ
numbers_of (commands.Book n) = n ∷ []
numbers_of (commands.Use k) = k ∷ []
numbers_of (commands.Call c) = call_numbers c
numbers_of (commands.Step x) = step_numbers x
numbers_of commands.Check = []
numbers_of (commands.Hold e) = e ∷ []
numbers_of (commands.HoldCall d h) = h ∷ []

-- the line that asks for a call, and for a command
abbrev pub call_text : Call → Bytes
call_text c = call_word (call_verb c) ++ spaced (call_numbers c)

abbrev pub command_text : Command → Bytes
command_text c = text_of (verb_of c) (numbers_of c)

-- the line that appends numbers, and the line that concludes
abbrev pub list_text : List ℕ → Bytes
list_text ns = list_word ++ spaced ns

abbrev pub conclude_text : List ℕ → Bytes
conclude_text ns = conclude_word ++ spaced ns

-- numbers of so many bits
abbrev pub Within : ℕ → List ℕ → Type 0
Within k [] = Unit {0}
Within k (n ∷ ns) = (n < 2 ^ k) × Within k ns

-- the line that asks for a command, read, asks for that command
abbrev pub ReadsBack : Type 0
ReadsBack = (c : Command) → Within (bits (verb_of c)) (numbers_of c) → request (command_text c) ≡ asks c

-- and so for a list of numbers
abbrev pub ListsReadBack : Type 0
ListsReadBack = (ns : List ℕ) → Within 16 ns → (request (list_text ns) ≡ append ns) × (request (conclude_text ns) ≡ draw ns)
