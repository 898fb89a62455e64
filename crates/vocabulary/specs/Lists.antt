-- The lists of a vocabulary in memory, as the vocabulary that the logic speaks of.
use Rattle.std.specs.Prelude.{◌≡◌, ℕ, ◌<◌, ◌≤◌, List, [], ◌∷◌, ◌++◌, map, length, Result, MatchResult}
use Rattle.logic.specs.Formulas.{Shape, Vocabulary}
use Rattle.formulas.specs.declared.records.TypeDef.{TypeDef}
use Rattle.formulas.specs.declared.refusals.Refusal.{Refusal}
use Rattle.formulas.specs.Records.{shape_of, sort_of}
use Rattle.vocabulary.specs.declared.facts.Formula.{Formula}

abbrev pub stored_shape : Formula → Shape ℕ
stored_shape f = shape_of f.entered

abbrev pub view : List TypeDef → List ℕ → List ℕ → List Formula → Vocabulary
view ts vs ss fs = record { types = map sort_of ts; variables = vs; sets = ss; formulas = map stored_shape fs }

-- an item more, numbered by its place; or, where the list is full, the refusal and the list as it was
abbrev pub Appends : {A : Type 0} → List A → List A → A → ℕ → Refusal → Result ℕ Refusal → Type 0
Appends old new item most full r = MatchResult r
    (λ n. (n ≡ length old) × (length old < most) × (new ≡ old ++ item ∷ []))
    (λ e. (e ≡ full) × (most ≤ length old) × (new ≡ old))
