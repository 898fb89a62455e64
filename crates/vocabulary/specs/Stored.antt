-- What a vocabulary in memory keeps: it is well formed, and what is stored of each formula beside its record is what the definitions say.
use Rattle.std.specs.Prelude.{◌≡◌, ℕ, ◌≤◌, true, List, slice_index_or}
use Rattle.logic.specs.Formulas.{Vocabulary, WellFormed, weight, depth}
use Rattle.logic.specs.Deciding.{type_of}
use Rattle.formulas.specs.Records.{plain, no_record}
use Rattle.vocabulary.specs.declared.facts.Formula.{Formula}

-- what stands at a number that no formula has: ⊥, and what it would have
abbrev pub no_formula : Formula
no_formula = record { entered = no_record; facts = record { ty = 0; weight = 1; depth = 1 } }

abbrev pub formula_at : List Formula → ℕ → Formula
formula_at fs n = slice_index_or fs n no_formula

abbrev pub Plain : List Formula → Type 0
Plain fs = (k : ℕ) → plain (formula_at fs k).entered ≡ true

abbrev pub Typed : Vocabulary → List Formula → Type 0
Typed v fs = (k : ℕ) → (formula_at fs k).facts.ty ≡ type_of v k

abbrev pub Weighed : Vocabulary → List Formula → Type 0
Weighed v fs = (k : ℕ) → ((formula_at fs k).facts.weight ≡ weight v k) × (weight v k ≤ 4095)

abbrev pub Measured : Vocabulary → List Formula → Type 0
Measured v fs = (k : ℕ) → ((formula_at fs k).facts.depth ≡ depth v k) × (depth v k ≤ 64)

pub record Stored (v : Vocabulary) (fs : List Formula) : Type 0 where
  pub well_formed : WellFormed v
  pub plain : Plain fs
  pub typed : Typed v fs
  pub weighed : Weighed v fs
  pub measured : Measured v fs
