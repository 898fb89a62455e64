-- A formula as a record of a kind and two operands, and as a shape.
use Rattle.std.specs.Prelude.{◌≡◌, ℕ, Bool, true, ◌&&◌, T, ◌↔◌, List, ◌==◌, slice_index_or}
use Rattle.logic.specs.Formulas.{Connective, and, or, implies, iff, Quantifier, forall, exists, Shape, variable, pair, falsity, truth, negation, join, bind, equal, member, Sort, carrier, product, Vocabulary, node}
use Rattle.logic.specs.Deciding.{knows_formula}
use Rattle.formulas.specs.declared.kinds.Kind.{Kind}
use Rattle.formulas.specs.declared.kinds.Kind.TheVariants.{Variable, Pair, False, True, Not, And, Or, Implies, Iff, ForAll, Exists, Equal, Member}
use Rattle.formulas.specs.declared.kinds.Role.{Role}
use Rattle.formulas.specs.declared.kinds.Role.TheVariants.{Nothing, AVariable, Expression, Predicate, ASetName}
use Rattle.formulas.specs.declared.records.Record.{Record}
use Rattle.formulas.specs.declared.records.TypeDef.{TypeDef}
use Rattle.formulas.specs.declared.records.TypeDef.TheVariants.{Carrier, Product}
use Rattle.formulas.specs.Kinds.{kind_number, first_role, second_role}

-- the shape that a kind and two operands make
abbrev pub shape : Kind → ℕ → ℕ → Shape ℕ
shape Variable a b = variable a
shape Pair a b = pair a b
shape False a b = falsity
shape True a b = truth
shape Not a b = negation a
shape And a b = join and a b
shape Or a b = join or a b
shape Implies a b = join implies a b
shape Iff a b = join iff a b
shape ForAll a b = bind forall a b
shape Exists a b = bind exists a b
shape Equal a b = equal a b
shape Member a b = member a b

abbrev pub shape_of : Record → Shape ℕ
shape_of r = shape r.kind r.a r.b

abbrev pub connective_kind : Connective → Kind
connective_kind and = And
connective_kind or = Or
connective_kind implies = Implies
connective_kind iff = Iff

abbrev pub quantifier_kind : Quantifier → Kind
quantifier_kind forall = ForAll
quantifier_kind exists = Exists

abbrev pub entry : Kind → ℕ → ℕ → Record
entry k a b = record { kind = k; a = a; b = b }

-- the record of a shape: an operand that the kind does not use is 0
abbrev pub record_of : Shape ℕ → Record
record_of (variable x) = entry Variable x 0
record_of (pair a b) = entry Pair a b
record_of falsity = entry False 0 0
record_of truth = entry True 0 0
record_of (negation a) = entry Not a 0
record_of (join c a b) = entry (connective_kind c) a b
record_of (bind q x b) = entry (quantifier_kind q) x b
record_of (equal a b) = entry Equal a b
record_of (member a s) = entry Member a s

abbrev pub same_record : Record → Record → Bool
same_record r s = kind_number s.kind == kind_number r.kind && (s.a == r.a && s.b == r.b)

-- an operand that is not used is 0
abbrev pub blank : Role → ℕ → Bool
blank Nothing n = n == 0
blank AVariable n = true
blank Expression n = true
blank Predicate n = true
blank ASetName n = true

abbrev pub plain : Record → Bool
plain r = blank (first_role r.kind) r.a && blank (second_role r.kind) r.b

-- what stands at a number that no formula has
abbrev pub no_record : Record
no_record = entry False 0 0

abbrev pub record_at : List Record → ℕ → Record
record_at rs n = slice_index_or rs n no_record

-- a type as the logic has it
abbrev pub sort_of : TypeDef → Sort ℕ
sort_of Carrier = carrier
sort_of (Product s t) = product s t

-- formula n is known and has the record r
abbrev pub has_record : Vocabulary → ℕ → Record → Bool
has_record v n r = knows_formula v n && same_record r (record_of (node v n))

-- a shape is that of its record; a record whose unused operands are 0 is that of its shape; and same_record compares the whole
abbrev pub RecordsAreShapes : Type 0
RecordsAreShapes = ((s : Shape ℕ) → shape_of (record_of s) ≡ s) × ((r : Record) → plain r ≡ true → record_of (shape_of r) ≡ r) ×
    ((r s : Record) → T (same_record r s) ↔ (s ≡ r))
