-- The kinds of formula: their numbers, and what their operands are.
use Rattle.std.specs.Prelude.{ℕ, zero, suc, Bool, true, false, List, [], ◌∷◌, Some, None, Option, ◌==◌, nat_lt}
use Rattle.formulas.specs.declared.kinds.Kind.{Kind}
use Rattle.formulas.specs.declared.kinds.Kind.TheVariants.{Variable, Pair, False, True, Not, And, Or, Implies, Iff, ForAll, Exists, Equal, Member}
use Rattle.formulas.specs.declared.kinds.Role.{Role}
use Rattle.formulas.specs.declared.kinds.Role.TheVariants.{Nothing, AVariable, Expression, Predicate, ASetName}

abbrev pub kind_number : Kind → ℕ
kind_number Variable = 0
kind_number Pair = 1
kind_number False = 2
kind_number True = 3
kind_number Not = 4
kind_number And = 5
kind_number Or = 6
kind_number Implies = 7
kind_number Iff = 8
kind_number ForAll = 9
kind_number Exists = 10
kind_number Equal = 11
kind_number Member = 12

abbrev pub kinds : List Kind
kinds = Variable ∷ Pair ∷ False ∷ True ∷ Not ∷ And ∷ Or ∷ Implies ∷ Iff ∷ ForAll ∷ Exists ∷ Equal ∷ Member ∷ []

abbrev pub place : List Kind → ℕ → Option Kind
place [] n = None
place (k ∷ ks) zero = Some k
place (k ∷ ks) (suc n) = place ks n

-- the kind that has a number, if any
abbrev pub kind_numbered : ℕ → Option Kind
kind_numbered n = place kinds n

-- what the first operand of a kind is, and the second
abbrev pub first_role : Kind → Role
first_role Variable = AVariable
first_role Pair = Expression
first_role False = Nothing
first_role True = Nothing
first_role Not = Predicate
first_role And = Predicate
first_role Or = Predicate
first_role Implies = Predicate
first_role Iff = Predicate
first_role ForAll = AVariable
first_role Exists = AVariable
first_role Equal = Expression
first_role Member = Expression

abbrev pub second_role : Kind → Role
second_role Variable = Nothing
second_role Pair = Expression
second_role False = Nothing
second_role True = Nothing
second_role Not = Nothing
second_role And = Predicate
second_role Or = Predicate
second_role Implies = Predicate
second_role Iff = Predicate
second_role ForAll = Predicate
second_role Exists = Predicate
second_role Equal = Expression
second_role Member = ASetName

-- whether an operand is a formula
abbrev pub is_formula : Role → Bool
is_formula Nothing = false
is_formula AVariable = false
is_formula Expression = true
is_formula Predicate = true
is_formula ASetName = false

abbrev pub is_variable : Kind → Bool
is_variable k = kind_number k == 0

abbrev pub is_pair : Kind → Bool
is_pair k = kind_number k == 1

abbrev pub is_equal : Kind → Bool
is_equal k = kind_number k == 11

abbrev pub is_member : Kind → Bool
is_member k = kind_number k == 12

abbrev pub is_binder : Kind → Bool
is_binder Variable = false
is_binder Pair = false
is_binder False = false
is_binder True = false
is_binder Not = false
is_binder And = false
is_binder Or = false
is_binder Implies = false
is_binder Iff = false
is_binder ForAll = true
is_binder Exists = true
is_binder Equal = false
is_binder Member = false

-- kinds 0 and 1 are expressions, the others predicates
abbrev pub is_expression_kind : Kind → Bool
is_expression_kind k = nat_lt (kind_number k) 2
