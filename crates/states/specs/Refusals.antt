-- What a refusal of a book carries: its number, its layer and its place.
use Rattle.std.specs.Prelude.{ℕ}
use Rattle.formulas.specs.declared.refusals.Layer.TheVariants.{Book}
use Rattle.formulas.specs.declared.refusals.Notice.{Notice}
use Rattle.calculus.specs.Refusals as calculus
use Rattle.states.specs.declared.refusal.Refusal.{Refusal}
use Rattle.states.specs.declared.refusal.Refusal.TheVariants.{NotAPredicate, EntriesFull, Derivation, UnknownCitation, CitationNotStanding, CitationHeld, HypothesesDiffer, UnknownEntry, NotAGivenRule, NotStanding, NotHeld}

abbrev pub in_book : ℕ → ℕ → Notice
in_book number place = record { number = number; layer = Book; place = place }

-- the place is the step of a derivation, or the position of a citation
abbrev pub notice : Refusal → Notice
notice NotAPredicate = in_book 10 0
notice EntriesFull = in_book 11 0
notice (Derivation refusal) = calculus.notice refusal
notice (UnknownCitation place) = in_book 26 place
notice (CitationNotStanding place) = in_book 27 place
notice (CitationHeld place) = in_book 28 place
notice HypothesesDiffer = in_book 29 0
notice UnknownEntry = in_book 30 0
notice NotAGivenRule = in_book 31 0
notice NotStanding = in_book 32 0
notice NotHeld = in_book 33 0
