-- What a book is asked, and how its answers read.
use Rattle.std.specs.Prelude.{◌≡◌, ℕ, Bool, true, false, T, ◌⊎◌, ◌↔◌, List, Some, None, Ok, Err, Option, Result}
use Rattle.logic.specs.Formulas.{free, IsSubstitution}
use Rattle.formulas.specs.declared.calls.Call.TheVariants.{NewCarrier, NewProduct, NewVariable, NewSetName, EnterFormula}
use Rattle.formulas.specs.declared.refusals.Notice.{Notice}
use Rattle.formulas.specs.declared.refusals.Refusal.{Refusal as NotEntered}
use Rattle.formulas.specs.Refusals as vocabulary
use Rattle.calculus.specs.declared.refusal.Refusal as faults
use Rattle.calculus.specs.declared.sequent.Sequent.{Sequent}
use Rattle.calculus.specs.declared.step.Step.{Step}
use Rattle.calculus.specs.Derivations.{RightDerivation, FirstFault}
use Rattle.calculus.specs.Refusals as derivation
use Rattle.rules.specs.Theories.{standard}
use Rattle.states.specs.declared.entry.EntryFacts.{EntryFacts}
use Rattle.states.specs.declared.refusal.Refusal.{Refusal}
use Rattle.states.specs.Refusals.{notice}
use Rattle.book.specs.Books.{Model, enter, give, ask_entry, ask_predicate}
use Rattle.commands.specs.declared.command.Call.{Call}
use Rattle.commands.specs.declared.command.Call.TheVariants.{Carrier, Product, Variable, Set, Formula, Free, Substitution, Give, Entry, Predicate}
use Rattle.replies.specs.declared.reply.Thing.{Thing}
use Rattle.replies.specs.declared.reply.Thing.TheVariants as things
use Rattle.replies.specs.declared.reply.Reply.{Reply}
use Rattle.replies.specs.declared.reply.Reply.TheVariants.{Numbered, Yes, No, Right, Refused, NoEntry}
use Rattle.replies.specs.declared.reply.Reply.TheVariants as replies

-- what is told, or the notice of a refusal
abbrev pub told_or_refused : Result Reply Notice → Reply
told_or_refused (Ok r) = r
told_or_refused (Err n) = Refused n

-- a call is granted, and answers a number, or is refused
abbrev pub granted : Thing → Result ℕ NotEntered → Reply
granted t (Ok n) = Numbered t n
granted t (Err e) = Refused (vocabulary.notice e)

-- a rule or a conclusion has a number, or is refused
abbrev pub entered : Result ℕ Refusal → Reply
entered (Ok n) = Numbered things.Entry n
entered (Err e) = Refused (notice e)

abbrev pub told : Result EntryFacts Refusal → Reply
told (Ok f) = replies.Entry f
told (Err e) = Refused (notice e)

abbrev pub found : Option ℕ → Reply
found (Some n) = Numbered things.Entry n
found None = NoEntry

abbrev pub found_or_refused : Result (Option ℕ) Refusal → Reply
found_or_refused (Ok o) = found o
found_or_refused (Err e) = Refused (notice e)

abbrev pub said : Bool → Reply
said true = Yes
said false = No

-- a question is answered by yes where P holds, and else by no
abbrev pub Says : Reply → Type 0 → Type 0
Says r P = ((r ≡ Yes) × P) ⊎ ((r ≡ No) × (P → ⊥))

-- r is the answer to a call
abbrev pub Answers : Model → Call → Reply → Type 0
Answers b Carrier r = r ≡ granted things.Type (enter b NewCarrier).answer
Answers b (Product s t) r = r ≡ granted things.Type (enter b (NewProduct s t)).answer
Answers b (Variable t) r = r ≡ granted things.Variable (enter b (NewVariable t)).answer
Answers b (Set t) r = r ≡ granted things.Set (enter b (NewSetName t)).answer
Answers b (Formula k p q) r = r ≡ granted things.Formula (enter b (EnterFormula k p q)).answer
Answers b (Free x n) r = Says r (T (free b.vocabulary x n))
Answers b (Substitution q p x e) r = Says r (IsSubstitution b.vocabulary q x e p)
Answers b (Give p) r = r ≡ entered (give b p).answer
Answers b (Entry e) r = r ≡ told (ask_entry b e)
Answers b (Predicate p) r = r ≡ found_or_refused (ask_predicate b p)

-- the book after a call
abbrev pub after : Model → Call → Model
after b Carrier = (enter b NewCarrier).after
after b (Product s t) = (enter b (NewProduct s t)).after
after b (Variable t) = (enter b (NewVariable t)).after
after b (Set t) = (enter b (NewSetName t)).after
after b (Formula k p q) = (enter b (EnterFormula k p q)).after
after b (Free x n) = b
after b (Substitution q p x e) = b
after b (Give p) = (give b p).after
after b (Entry e) = b
after b (Predicate p) = b

abbrev pub verdict : Result Sequent faults.Refusal → Reply
verdict (Ok s) = Right
verdict (Err e) = Refused (derivation.notice e)

-- r is the verdict on a derivation: `right` exactly where it is right, else a refusal, exactly with its first fault
pub record Verdict (b : Model) (xs : List Step) (hs : List ℕ) (r : Reply) : Type 0 where
  pub either : (r ≡ Right) ⊎ ((e : faults.Refusal) × (r ≡ Refused (derivation.notice e)))
  pub right : (r ≡ Right) ↔ RightDerivation standard b.vocabulary xs hs
  pub refused : (e : faults.Refusal) → (r ≡ Refused (derivation.notice e)) ↔ FirstFault e standard b.vocabulary xs hs
