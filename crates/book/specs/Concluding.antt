-- Concluding by a derivation in a theory.
use Rattle.std.specs.Prelude.{◌≡◌, ℕ, ◌<◌, ◌≤◌, ◌⊎◌, List, length, Ok, Err, Result}
use Rattle.logic.specs.Formulas.{Vocabulary}
use Rattle.logic.specs.Meanings.{Sequent as Seq}
use Rattle.calculus.specs.declared.step.Step.{Step}
use Rattle.calculus.specs.declared.sequent.Sequent.{Sequent}
use Rattle.calculus.specs.declared.refusal.Fault.TheVariants.{Size}
use Rattle.calculus.specs.declared.refusal.Refusal.{Refusal as DerivationRefusal}
use Rattle.calculus.specs.Model.{seq}
use Rattle.calculus.specs.Theories.{Meaning}
use Rattle.calculus.specs.Derivations.{RightDerivation, FirstFault, root}
use Rattle.states.specs.declared.refusal.Refusal.{Refusal}
use Rattle.states.specs.declared.refusal.Refusal.TheVariants.{Derivation}
use Rattle.entries.specs.Concluding as entries
use Rattle.book.specs.Books.{Model, Outcome, refuse, on_entries}

-- The verdict on a derivation that is handed over with citations: it is right, and this is its root, or it has a first fault.
-- Over 16 citations are a fault of the sizes.
abbrev pub Judges : Meaning → Vocabulary → List Step → List ℕ → List ℕ → Result Seq DerivationRefusal → Type 0
Judges m v xs hs cites (Ok s) = (length cites ≤ 16) × RightDerivation m v xs hs × (s ≡ root xs hs)
Judges m v xs hs cites (Err e) = ((16 < length cites) × (e ≡ record { fault = Size; step = 0 })) ⊎ ((length cites ≤ 16) × FirstFault e m v xs hs)

-- what the checker answers, as a verdict
abbrev pub verdict_of : Result Sequent DerivationRefusal → Result Seq DerivationRefusal
verdict_of (Ok s) = Ok (seq s)
verdict_of (Err e) = Err e

-- conclude, by the verdict on the derivation
abbrev pub conclude : Model → Result Seq DerivationRefusal → List ℕ → Outcome ℕ Refusal
conclude b (Ok s) cites = on_entries b (entries.conclude b.entries s.goal s.hypotheses cites)
conclude b (Err e) cites = refuse (Derivation e) b
