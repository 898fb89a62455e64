-- Calls with their answers, and the runs of a book.
use Rattle.std.specs.Prelude.{◌≡◌, ℕ, List, [], ◌∷◌, Option, Result}
use Rattle.logic.specs.Meanings.{Sequent as Seq}
use Rattle.formulas.specs.declared.calls.Call.{Call}
use Rattle.formulas.specs.declared.refusals.Refusal.{Refusal as VocabularyRefusal}
use Rattle.calculus.specs.declared.step.Step.{Step}
use Rattle.calculus.specs.declared.refusal.Refusal.{Refusal as DerivationRefusal}
use Rattle.calculus.specs.Theories.{Meaning}
use Rattle.states.specs.declared.entry.EntryFacts.{EntryFacts}
use Rattle.states.specs.declared.refusal.Refusal.{Refusal}
use Rattle.book.specs.declared.hold.Hold.{Hold}
use Rattle.book.specs.declared.hold.Refused.{Refused}
use Rattle.book.specs.Books.{Model, new_book, Outcome, enter, give, hold, preview, lift, withdraw, ask_entry, ask_predicate}
use Rattle.book.specs.Concluding.{Judges, conclude}

-- a call, with what it was handed and what it answered
pub data Event : Type 0 where
  enters : Call → Result ℕ VocabularyRefusal → Event
  gives : ℕ → Result ℕ Refusal → Event
  concludes : List Step → List ℕ → List ℕ → Result ℕ Refusal → Event
  holds : ℕ → Result Hold Refusal → Event
  previews : Hold → Result (ℕ × ℕ) Refusal → Event
  lifts : Hold → Result (Unit {0}) Refused → Event
  withdraws : Hold → Result (ℕ × ℕ) Refused → Event
  asks_entry : ℕ → Result EntryFacts Refusal → Event
  asks_predicate : ℕ → Result (Option ℕ) Refusal → Event

-- the answer and the book afterwards are those of an outcome
abbrev pub Comes : {A B : Type 0} → Outcome A B → Result A B → Model → Type 0
Comes outcome answer b' = (answer ≡ outcome.answer) × (b' ≡ outcome.after)

-- the event is a call on the book b that needs no theory, answered as it is, and leaves the book b'
abbrev pub DoesPlainly : Model → Event → Model → Type 0
DoesPlainly b (enters c answer) b' = Comes (enter b c) answer b'
DoesPlainly b (gives p answer) b' = Comes (give b p) answer b'
DoesPlainly b (concludes xs hs cites answer) b' = ⊥
DoesPlainly b (holds e answer) b' = Comes (hold b e) answer b'
DoesPlainly b (previews h answer) b' = (answer ≡ preview b h) × (b' ≡ b)
DoesPlainly b (lifts h answer) b' = Comes (lift b h) answer b'
DoesPlainly b (withdraws h answer) b' = Comes (withdraw b h) answer b'
DoesPlainly b (asks_entry e answer) b' = (answer ≡ ask_entry b e) × (b' ≡ b)
DoesPlainly b (asks_predicate p answer) b' = (answer ≡ ask_predicate b p) × (b' ≡ b)

-- the event is a call on the book b, with derivations in a theory of this meaning, and leaves the book b'
abbrev pub Does : Meaning → Model → Event → Model → Type 0
Does m b (enters c answer) b' = DoesPlainly b (enters c answer) b'
Does m b (gives p answer) b' = DoesPlainly b (gives p answer) b'
Does m b (concludes xs hs cites answer) b' =
    (verdict : Result Seq DerivationRefusal) × Judges m b.vocabulary xs hs cites verdict × Comes (conclude b verdict cites) answer b'
Does m b (holds e answer) b' = DoesPlainly b (holds e answer) b'
Does m b (previews h answer) b' = DoesPlainly b (previews h answer) b'
Does m b (lifts h answer) b' = DoesPlainly b (lifts h answer) b'
Does m b (withdraws h answer) b' = DoesPlainly b (withdraws h answer) b'
Does m b (asks_entry e answer) b' = DoesPlainly b (asks_entry e answer) b'
Does m b (asks_predicate p answer) b' = DoesPlainly b (asks_predicate p answer) b'

-- the events, newest first, are calls on a new book with this number, each continuing the work of those before, and leave the book b
abbrev pub Run : Meaning → ℕ → List Event → Model → Type 0
Run m number [] b = b ≡ new_book number
Run m number (x ∷ before) b = (b₀ : Model) × Run m number before b₀ × Does m b₀ x b
