-- How a vocabulary grows: what is entered changes nothing that was there, and keeps it well formed.
use Rattle.std.specs.Prelude.{◌≡◌, ℕ, ◌<◌, ◌≤◌, ◌↔◌, List, [], ◌∷◌, ◌++◌, length, ◌≢◌}
use Rattle.std.specs.List.{AllByRecursion}
use Rattle.logic.specs.Formulas.{In, Shape, operands, Sort, product, parts, Vocabulary, node, sort, variable_type, element_type, free, HasType, IsSubstitution, Formed, WellFormed, weight, depth}
use Rattle.logic.specs.Meanings.{Value, Structure, values, meaning, Interpretation, Sequent, Valid}

-- a vocabulary and what was entered after it
pub record Grows (v v' : Vocabulary) : Type 0 where
  pub types_grow : (more : List (Sort ℕ)) × (v'.types ≡ v.types ++ more)
  pub variables_grow : (more : List ℕ) × (v'.variables ≡ v.variables ++ more)
  pub sets_grow : (more : List ℕ) × (v'.sets ≡ v.sets ++ more)
  pub formulas_grow : (more : List (Shape ℕ)) × (v'.formulas ≡ v.formulas ++ more)

-- every number of the sequent is a formula's
abbrev pub Known : Vocabulary → Sequent → Type 0
Known v s = AllByRecursion (λ n. n < length v.formulas) (s.goal ∷ s.hypotheses)

-- what v says of its own numbers, v' says of them too
pub record Keeps (v v' : Vocabulary) : Type 0 where
  pub types_stay : (t : ℕ) → t < length v.types → sort v' t ≡ sort v t
  pub variables_stay : (x : ℕ) → x < length v.variables → variable_type v' x ≡ variable_type v x
  pub sets_stay : (s : ℕ) → s < length v.sets → element_type v' s ≡ element_type v s
  pub formulas_stay : (n : ℕ) → n < length v.formulas → node v' n ≡ node v n
  pub typing_stays : (n t : ℕ) → n < length v.formulas → HasType v' n t ↔ HasType v n t
  pub weight_stays : (n : ℕ) → n < length v.formulas → weight v' n ≡ weight v n
  pub depth_stays : (n : ℕ) → n < length v.formulas → depth v' n ≡ depth v n
  pub free_stays : (x n : ℕ) → n < length v.formulas → free v' x n ≡ free v x n
  pub substitution_stays : (q x e p : ℕ) → AllByRecursion (λ n. n < length v.formulas) (q ∷ e ∷ p ∷ []) → x < length v.variables →
      IsSubstitution v' q x e p ↔ IsSubstitution v q x e p
  pub values_stay : (w : Structure) (t : ℕ) → t < length v.types → values v' w t ≡ values v w t
  pub meaning_stays : (w : Structure) (n : ℕ) → n < length v.formulas → meaning v' w n ≡ meaning v w n
  pub interpretations_stay : (w : Structure) (f : ℕ → Value) → Interpretation v' w f → Interpretation v w f
  pub validity_stays : (s : Sequent) → Known v s → Valid v s → Valid v' s

-- growing changes nothing of what older numbers mean
abbrev pub GrowthKeeps : Type 0
GrowthKeeps = (v v' : Vocabulary) → WellFormed v → WellFormed v' → Grows v v' → Keeps v v'

-- what is new rests on what was there, and stands once
pub record New (v v' : Vocabulary) : Type 0 where
  pub types_known : (t r : ℕ) → length v.types ≤ t → In r (parts (sort v' t)) → r < length v.types
  pub products_once : (t r a b : ℕ) → length v.types ≤ t → sort v' t ≡ product a b → sort v' r ≡ product a b → t ≡ r
  pub variables_typed : (x : ℕ) → length v.variables ≤ x → x < length v'.variables → variable_type v' x < length v.types
  pub sets_typed : (s : ℕ) → length v.sets ≤ s → s < length v'.sets → element_type v' s < length v.types
  pub operands_known : (n m : ℕ) → length v.formulas ≤ n → In m (operands (node v' n)) → m < length v.formulas
  pub formed : (n : ℕ) → length v.formulas ≤ n → n < length v'.formulas → Formed v (node v' n)
  pub records_once : (n m : ℕ) → length v.formulas ≤ n → n < length v'.formulas → m < length v'.formulas → node v' n ≡ node v' m → n ≡ m

-- so a vocabulary that grows stays well formed
abbrev pub StaysWellFormed : Type 0
StaysWellFormed = (v v' : Vocabulary) → WellFormed v → Grows v v' → New v v' → WellFormed v'

-- v with one more formula
abbrev pub with_formula : Vocabulary → Shape ℕ → Vocabulary
with_formula v s = record { types = v.types; variables = v.variables; sets = v.sets; formulas = v.formulas ++ s ∷ [] }

-- a formula is entered that is formed over known operands and stands nowhere yet
abbrev pub EntersWell : Type 0
EntersWell = (v : Vocabulary) (s : Shape ℕ) → WellFormed v → ((m : ℕ) → In m (operands s) → m < length v.formulas) → Formed v s →
    ((n : ℕ) → n < length v.formulas → node v n ≢ s) → WellFormed (with_formula v s)

-- v with one more type, variable, set name
abbrev pub with_type : Vocabulary → Sort ℕ → Vocabulary
with_type v s = record { types = v.types ++ s ∷ []; variables = v.variables; sets = v.sets; formulas = v.formulas }

abbrev pub with_variable : Vocabulary → ℕ → Vocabulary
with_variable v t = record { types = v.types; variables = v.variables ++ t ∷ []; sets = v.sets; formulas = v.formulas }

abbrev pub with_set : Vocabulary → ℕ → Vocabulary
with_set v t = record { types = v.types; variables = v.variables; sets = v.sets ++ t ∷ []; formulas = v.formulas }

-- a new vocabulary
abbrev pub empty_vocabulary : Vocabulary
empty_vocabulary = record { types = []; variables = []; sets = []; formulas = [] }

-- a new book's vocabulary is well formed; a carrier, or a product of known types that stands nowhere yet, a variable and a set name of a known type keep it so
abbrev pub OthersEnterWell : Type 0
OthersEnterWell = WellFormed empty_vocabulary ×
    ((v : Vocabulary) (s : Sort ℕ) → WellFormed v → ((r : ℕ) → In r (parts s) → r < length v.types) →
    ((t a b : ℕ) → s ≡ product a b → t < length v.types → sort v t ≢ s) → WellFormed (with_type v s)) ×
    ((v : Vocabulary) (t : ℕ) → WellFormed v → t < length v.types → WellFormed (with_variable v t)) ×
    ((v : Vocabulary) (t : ℕ) → WellFormed v → t < length v.types → WellFormed (with_set v t))
