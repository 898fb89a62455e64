-- Typing by reckoning: a formula's type is found by going down its operands, and whether it is formed is a test.
use Rattle.std.specs.Prelude.{◌≡◌, ℕ, suc, Bool, true, false, cond, not, ◌&&◌, T, ◌↔◌, List, [], ◌∷◌, length, is_some, Some, None, Option, ◌==◌, nat_lt}
use Rattle.std.specs.Option.{option_map, unwrap_or}
use Rattle.logic.specs.Formulas.{Shape, variable, pair, falsity, truth, negation, join, bind, equal, member, Sort, carrier, product, Vocabulary, node, variable_type, element_type, ask, HasType, predicate_shape, Formed, WellFormed}

-- the place of the first element that passes a test
abbrev pub found : {A : Type 0} → (A → Bool) → List A → Option ℕ
found p [] = None
found p (x ∷ xs) = cond (p x) (Some 0) (option_map suc (found p xs))

abbrev pub is_product : ℕ → ℕ → Sort ℕ → Bool
is_product s t carrier = false
is_product s t (product a b) = a == s && b == t

-- the number of the product of two types, if there is one
abbrev pub product_number : Vocabulary → ℕ → ℕ → Option ℕ
product_number v s t = found (is_product s t) v.types

-- a variable has its own type and a pair the product of its operands' types; a predicate has none, written 0
abbrev pub type_of_layer : Vocabulary → Shape ℕ → ℕ
type_of_layer v (variable x) = variable_type v x
type_of_layer v (pair a b) = unwrap_or (product_number v a b) 0
type_of_layer v falsity = 0
type_of_layer v truth = 0
type_of_layer v (negation a) = 0
type_of_layer v (join c a b) = 0
type_of_layer v (bind q x b) = 0
type_of_layer v (equal a b) = 0
type_of_layer v (member a s) = 0

-- the type of expression n
unfoldable pub type_of : Vocabulary → ℕ → ℕ
type_of v n = ask v 0 (λ _. type_of_layer v) n

-- n is the number of a formula, of a predicate, of an expression
abbrev pub knows_formula : Vocabulary → ℕ → Bool
knows_formula v n = nat_lt n (length v.formulas)

abbrev pub is_predicate : Vocabulary → ℕ → Bool
is_predicate v n = knows_formula v n && predicate_shape (node v n)

abbrev pub is_expression : Vocabulary → ℕ → Bool
is_expression v n = knows_formula v n && not (predicate_shape (node v n))

-- each operand is known and of the right sort
abbrev pub sorted : Vocabulary → Shape ℕ → Bool
sorted v (variable x) = nat_lt x (length v.variables)
sorted v (pair a b) = is_expression v a && is_expression v b
sorted v falsity = true
sorted v truth = true
sorted v (negation a) = is_predicate v a
sorted v (join c a b) = is_predicate v a && is_predicate v b
sorted v (bind q x b) = nat_lt x (length v.variables) && is_predicate v b
sorted v (equal a b) = is_expression v a && is_expression v b
sorted v (member a s) = is_expression v a && nat_lt s (length v.sets)

-- a pair's product exists, both sides of = have one type, and an element has its set's element type
abbrev pub agreed : Vocabulary → Shape ℕ → Bool
agreed v (variable x) = true
agreed v (pair a b) = is_some (product_number v (type_of v a) (type_of v b))
agreed v falsity = true
agreed v truth = true
agreed v (negation a) = true
agreed v (join c a b) = true
agreed v (bind q x b) = true
agreed v (equal a b) = type_of v a == type_of v b
agreed v (member a s) = type_of v a == element_type v s

-- the reckoned type is the type, and the only one
abbrev pub TypesDecided : Type 0
TypesDecided = (v : Vocabulary) → WellFormed v → (n t : ℕ) → HasType v n t ↔ (T (is_expression v n) × (type_of v n ≡ t))

-- a shape is formed exactly when both tests pass
abbrev pub FormedDecided : Type 0
FormedDecided = (v : Vocabulary) → WellFormed v → (s : Shape ℕ) → Formed v s ↔ T (sorted v s && agreed v s)

-- A, as far as tests tell. A vocabulary in memory keeps this of its being well formed, since it may keep propositions alone.
abbrev pub Sure : Type 0 → Type 0
Sure A = (b : Bool) → (A → b ≡ true) → b ≡ true

-- for a vocabulary tests tell all
abbrev pub SureWellFormed : Type 0
SureWellFormed = (v : Vocabulary) → Sure (WellFormed v) → WellFormed v
