-- The calls on a vocabulary: what each answers, and the vocabulary afterwards. Checks come in the order of the text.
use Rattle.std.specs.Prelude.{◌≡◌, ℕ, ◌<◌, Bool, cond, ◌&&◌, length, Some, None, Ok, Err, Option, Result, ◌==◌, nat_le, nat_lt}
use Rattle.logic.specs.Formulas.{Shape, Sort, carrier, Vocabulary, through, weight, weight_layer, depth, depth_layer, WellFormed, node, sort, variable_type, element_type}
use Rattle.logic.specs.Growing.{with_type, with_variable, with_set, with_formula, Keeps}
use Rattle.logic.specs.Formulas as logic
use Rattle.logic.specs.Deciding.{found, product_number, is_expression, is_predicate, agreed}
use Rattle.formulas.specs.declared.calls.Call.{Call}
use Rattle.formulas.specs.declared.calls.Call.TheVariants.{NewCarrier, NewProduct, NewVariable, NewSetName, EnterFormula}
use Rattle.formulas.specs.declared.kinds.Kind.{Kind}
use Rattle.formulas.specs.declared.kinds.Role.{Role}
use Rattle.formulas.specs.declared.kinds.Role.TheVariants.{Nothing, AVariable, Expression, Predicate, ASetName}
use Rattle.formulas.specs.declared.records.Record.{Record}
use Rattle.formulas.specs.declared.refusals.Refusal.{Refusal}
use Rattle.formulas.specs.declared.refusals.Refusal.TheVariants.{TypesFull, UnknownType, VariablesFull, SetNamesFull, UnknownKind, WrongOperand, TypesDisagree, TooLarge, FormulasFull}
use Rattle.formulas.specs.Kinds.{kind_numbered, first_role, second_role}
use Rattle.formulas.specs.Records.{shape, shape_of, record_of, same_record, entry}

pub record Outcome : Type 0 where
  pub answer : Result ℕ Refusal
  pub after : Vocabulary

-- a refused call leaves the vocabulary as it was
abbrev pub refused : Refusal → Vocabulary → Outcome
refused e v = record { answer = Err e; after = v }

abbrev pub granted : ℕ → Vocabulary → Outcome
granted n v = record { answer = Ok n; after = v }

abbrev pub knows_type : Vocabulary → ℕ → Bool
knows_type v t = nat_lt t (length v.types)

abbrev pub knows_variable : Vocabulary → ℕ → Bool
knows_variable v x = nat_lt x (length v.variables)

-- one type more, if there is room
abbrev pub add_type : Vocabulary → Sort ℕ → Outcome
add_type v s = cond (nat_lt (length v.types) 64) (granted (length v.types) (with_type v s)) (refused TypesFull v)

abbrev pub new_carrier : Vocabulary → Outcome
new_carrier v = add_type v carrier

abbrev pub product_or : Vocabulary → ℕ → ℕ → Option ℕ → Outcome
product_or v s t (Some n) = granted n v
product_or v s t None = add_type v (logic.product s t)

abbrev pub product : Vocabulary → ℕ → ℕ → Outcome
product v s t = cond (knows_type v s && knows_type v t) (product_or v s t (product_number v s t)) (refused UnknownType v)

abbrev pub new_variable : Vocabulary → ℕ → Outcome
new_variable v t =
    cond (knows_type v t)
    (cond (nat_lt (length v.variables) 256) (granted (length v.variables) (with_variable v t)) (refused VariablesFull v))
    (refused UnknownType v)

abbrev pub new_set_name : Vocabulary → ℕ → Outcome
new_set_name v t =
    cond (knows_type v t)
    (cond (nat_lt (length v.sets) 64) (granted (length v.sets) (with_set v t)) (refused SetNamesFull v))
    (refused UnknownType v)

-- whether n may stand as an operand
abbrev pub fits : Vocabulary → Role → ℕ → Bool
fits v Nothing n = n == 0
fits v AVariable n = nat_lt n (length v.variables)
fits v Expression n = is_expression v n
fits v Predicate n = is_predicate v n
fits v ASetName n = nat_lt n (length v.sets)

abbrev pub operands_fit : Vocabulary → Record → Bool
operands_fit v r = fits v (first_role r.kind) r.a && fits v (second_role r.kind) r.b

-- the weight and the depth that a shape has once it is entered
abbrev pub weight_with : Vocabulary → Shape ℕ → ℕ
weight_with v s = weight_layer (through (weight v) s)

abbrev pub depth_with : Vocabulary → Shape ℕ → ℕ
depth_with v s = depth_layer (through (depth v) s)

abbrev pub small_enough : Vocabulary → Shape ℕ → Bool
small_enough v s = nat_le (weight_with v s) 4095 && nat_le (depth_with v s) 64

-- why a record may not be entered, if it may not
abbrev pub objection : Vocabulary → Record → Option Refusal
objection v r =
    cond (operands_fit v r)
    (cond (agreed v (shape_of r)) (cond (small_enough v (shape_of r)) None (Some TooLarge)) (Some TypesDisagree))
    (Some WrongOperand)

-- the number of the formula that has a record, if there is one
abbrev pub formula_number : Vocabulary → Record → Option ℕ
formula_number v r = found (λ s. same_record r (record_of s)) v.formulas

abbrev pub settle : Vocabulary → Record → Option ℕ → Outcome
settle v r (Some n) = granted n v
settle v r None = cond (nat_lt (length v.formulas) 2048) (granted (length v.formulas) (with_formula v (shape_of r))) (refused FormulasFull v)

abbrev pub enter_unless : Vocabulary → Record → Option Refusal → Outcome
enter_unless v r (Some e) = refused e v
enter_unless v r None = settle v r (formula_number v r)

abbrev pub enter_kind : Vocabulary → ℕ → ℕ → Option Kind → Outcome
enter_kind v a b None = refused UnknownKind v
enter_kind v a b (Some k) = enter_unless v (entry k a b) (objection v (entry k a b))

abbrev pub enter_formula : Vocabulary → ℕ → ℕ → ℕ → Outcome
enter_formula v k a b = enter_kind v a b (kind_numbered k)

-- any of the calls
abbrev pub called : Vocabulary → Call → Outcome
called v NewCarrier = new_carrier v
called v (NewProduct s t) = product v s t
called v (NewVariable t) = new_variable v t
called v (NewSetName t) = new_set_name v t
called v (EnterFormula k a b) = enter_formula v k a b

-- n means what was asked for
abbrev pub Means : Vocabulary → Call → ℕ → Type 0
Means v NewCarrier n = (n < length v.types) × (sort v n ≡ carrier)
Means v (NewProduct s t) n = (n < length v.types) × (sort v n ≡ logic.product s t)
Means v (NewVariable t) n = (n < length v.variables) × (variable_type v n ≡ t)
Means v (NewSetName t) n = (n < length v.sets) × (element_type v n ≡ t)
Means v (EnterFormula k a b) n = (n < length v.formulas) × ((j : Kind) × (kind_numbered k ≡ Some j) × (node v n ≡ shape j a b))

-- What a call owes: the vocabulary stays well formed, what was there means what it did, the number answered means what was asked for,
-- and a refusal changes nothing.
pub record EnteringLaw (v : Vocabulary) (c : Call) (r : Result ℕ Refusal) (v' : Vocabulary) : Type 0 where
  pub well_formed : WellFormed v'
  pub keeps : Keeps v v'
  pub means : (n : ℕ) → r ≡ Ok n → Means v' c n
  pub unchanged : (e : Refusal) → r ≡ Err e → v' ≡ v
