-- What the rules ask of a vocabulary.
use Rattle.std.specs.Prelude.{ℕ, Bool, ◌&&◌, is_some}
use Rattle.std.specs.Option.{unwrap_or}
use Rattle.logic.specs.Formulas.{Vocabulary, node}
use Rattle.formulas.specs.declared.kinds.Kind.{Kind}
use Rattle.formulas.specs.declared.kinds.Kind.TheVariants.{Pair, Equal}
use Rattle.formulas.specs.Records.{entry, record_of, has_record}
use Rattle.vocabulary.specs.Calls.{formula_number}

-- n is the number of this formula
unfoldable pub is : Vocabulary → ℕ → Kind → ℕ → ℕ → Bool
is v n k a b = has_record v n (entry k a b)

-- the operands of formula n, 0 where it has none
abbrev pub first_operand : Vocabulary → ℕ → ℕ
first_operand v n = (record_of (node v n)).a

abbrev pub second_operand : Vocabulary → ℕ → ℕ
second_operand v n = (record_of (node v n)).b

-- n is the number of a formula of this kind
abbrev pub has_kind : Vocabulary → ℕ → Kind → Bool
has_kind v n k = is v n k (first_operand v n) (second_operand v n)

-- n is the number of an equation of two pairs
abbrev pub equates_pairs : Vocabulary → ℕ → Bool
equates_pairs v n = has_kind v n Equal && (has_kind v (first_operand v n) Pair && has_kind v (second_operand v n) Pair)

-- some number is that of this formula
unfoldable pub has_number : Vocabulary → Kind → ℕ → ℕ → Bool
has_number v k a b = is_some (formula_number v (entry k a b))

-- the number of a formula, 0 where it has none
unfoldable pub number_of : Vocabulary → Kind → ℕ → ℕ → ℕ
number_of v k a b = unwrap_or (formula_number v (entry k a b)) 0
