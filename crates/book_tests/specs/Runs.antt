-- What a caller knows of a book.
use Rattle.std.specs.Prelude.{ℕ, [], ◌∷◌, Result}
use Rattle.formulas.specs.declared.calls.Call.{Call}
use Rattle.formulas.specs.declared.refusals.Refusal.{Refusal as VocabularyRefusal}
use Rattle.calculus.specs.Theories.{Meaning}
use Rattle.states.specs.declared.refusal.Refusal.{Refusal}
use Rattle.book.specs.declared.store.Book.{Book}
use Rattle.book.specs.Runs.{enters, gives, Run}
use Rattle.book.specs.Law.{Trace, Law}

-- two calls, with their answers
abbrev pub two_calls : Call → Result ℕ VocabularyRefusal → ℕ → Result ℕ Refusal → Trace
two_calls c entered p given = gives p given ∷ enters c entered ∷ []

-- the book is left by a run of the two calls, and keeps the law
abbrev pub LeftByARun : Meaning → Call → ℕ → Book → Type 0
LeftByARun m c p b = (entered : Result ℕ VocabularyRefusal) × (given : Result ℕ Refusal) × Run m 7 (two_calls c entered p given) b × Law (two_calls c entered p given) b
