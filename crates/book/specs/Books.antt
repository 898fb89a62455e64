-- A book as lists, and what each call answers and makes of it.
use Rattle.std.specs.Prelude.{ℕ, ◌≤◌, Bool, cond, List, [], length, Ok, Err, Option, Result, position, ◌==◌}
use Rattle.logic.specs.Formulas.{Vocabulary, WellFormed, Limited}
use Rattle.logic.specs.Growing.{empty_vocabulary}
use Rattle.logic.specs.Deciding.{is_predicate}
use Rattle.formulas.specs.declared.calls.Call.{Call}
use Rattle.formulas.specs.declared.refusals.Refusal.{Refusal as VocabularyRefusal}
use Rattle.vocabulary.specs.Calls.{called}
use Rattle.states.specs.declared.entry.Entry.{Entry}
use Rattle.states.specs.declared.entry.EntryFacts.{EntryFacts}
use Rattle.states.specs.declared.refusal.Refusal.{Refusal}
use Rattle.states.specs.declared.refusal.Refusal.TheVariants.{NotAPredicate, NotHeld}
use Rattle.entries.specs.Lists as entries
use Rattle.states.specs.Support.{stands_with}
use Rattle.entries.specs.Lists.{Change}
use Rattle.book.specs.declared.hold.Hold.{Hold}
use Rattle.book.specs.declared.hold.Refused.{Refused}
use Rattle.book.specs.Holds.{send_back, answered, granting}

pub record Model : Type 0 where
  pub number : ℕ
  pub vocabulary : Vocabulary
  pub entries : List Entry

-- what every book keeps to: its vocabulary is well formed and within its limits, and it has at most 512 entries
pub record WellFormedBook (b : Model) : Type 0 where
  pub formed : WellFormed b.vocabulary
  pub limited : Limited b.vocabulary
  pub few : length b.entries ≤ 512

abbrev pub new_book : ℕ → Model
new_book number = record { number = number; vocabulary = empty_vocabulary; entries = [] }

-- what a call answers, with A where it is granted and B where it is refused, and the book afterwards
pub record Outcome (A B : Type 0) : Type 0 where
  pub answer : Result A B
  pub after : Model

-- a refusal leaves the book as it was
abbrev pub refuse : {A B : Type 0} → B → Model → Outcome A B
refuse why b = record { answer = Err why; after = b }

abbrev pub with_vocabulary : Model → Vocabulary → Model
with_vocabulary b v = record { number = b.number; vocabulary = v; entries = b.entries }

abbrev pub with_entries : Model → List Entry → Model
with_entries b es = record { number = b.number; vocabulary = b.vocabulary; entries = es }

-- a call on the vocabulary
abbrev pub enter : Model → Call → Outcome ℕ VocabularyRefusal
enter b c = record { answer = (called b.vocabulary c).answer; after = with_vocabulary b (called b.vocabulary c).after }

-- a call on the entries
abbrev pub on_entries : {A : Type 0} → Model → Change A → Outcome A Refusal
on_entries b o = record { answer = o.answer; after = with_entries b o.after }

abbrev pub give : Model → ℕ → Outcome ℕ Refusal
give b p = cond (is_predicate b.vocabulary p) (on_entries b (entries.give b.entries p)) (refuse NotAPredicate b)

abbrev pub hold_on : Model → ℕ → Hold
hold_on b e = record { book = b.number; entry = e }

abbrev pub held : Model → ℕ → Change (Unit {0}) → Outcome Hold Refusal
held b e o = record { answer = granting (hold_on b e) o.answer; after = with_entries b o.after }

abbrev pub hold : Model → ℕ → Outcome Hold Refusal
hold b e = held b e (entries.hold b.entries e)

-- the hold has this book's number
abbrev pub is_own : Model → Hold → Bool
is_own b h = h.book == b.number

abbrev pub preview : Model → Hold → Result (ℕ × ℕ) Refusal
preview b h = cond (is_own b h) (entries.preview b.entries h.entry) (Err NotHeld)

-- a call that ends a hold, unless it sends it back
abbrev pub ended : {A : Type 0} → Model → Hold → Change A → Outcome A Refused
ended b h o = record { answer = answered h o.answer; after = with_entries b o.after }

abbrev pub lift : Model → Hold → Outcome (Unit {0}) Refused
lift b h = cond (is_own b h) (ended b h (entries.lift b.entries h.entry)) (refuse (send_back h NotHeld) b)

abbrev pub withdraw : Model → Hold → Outcome (ℕ × ℕ) Refused
withdraw b h = cond (is_own b h) (ended b h (entries.withdraw b.entries h.entry)) (refuse (send_back h NotHeld) b)

abbrev pub ask_entry : Model → ℕ → Result EntryFacts Refusal
ask_entry b e = entries.ask b.entries e

-- the lowest entry that stands with the predicate, or none
abbrev pub ask_predicate : Model → ℕ → Result (Option ℕ) Refusal
ask_predicate b p = cond (is_predicate b.vocabulary p) (Ok (position (stands_with p) b.entries)) (Err NotAPredicate)
