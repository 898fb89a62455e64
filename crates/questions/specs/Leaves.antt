-- One layer of freeness and of substitution over a record, as the code reckons it from the answers at the operands.
use Rattle.std.specs.Prelude.{◌≡◌, ℕ, Bool, false, cond, not, ◌&&◌, ◌||◌, ◌==◌}
use Rattle.logic.specs.Formulas.{Vocabulary, free}
use Rattle.formulas.specs.declared.kinds.Role.{Role}
use Rattle.formulas.specs.declared.kinds.Role.TheVariants.{Nothing, AVariable, Expression, Predicate, ASetName}
use Rattle.formulas.specs.declared.records.Record.{Record}
use Rattle.formulas.specs.Kinds.{kind_number, is_variable, is_binder}

abbrev pub free_from : ℕ → Record → Bool → Bool → Bool
free_from x r first second =
    cond (is_variable r.kind) (x == r.a)
    (cond (is_binder r.kind) (not (x == r.a) && second) (first || second))

abbrev pub substituted_under : Vocabulary → ℕ → Record → Record → ℕ → Bool → Bool → Bool
substituted_under v e r s q first second =
    cond (is_variable r.kind) (q == e)
    (cond (is_binder r.kind && free v r.a e) false
    (kind_number s.kind == kind_number r.kind && (first && second)))

-- an operand formula is replaced, any other operand is kept
abbrev pub Replaced : (ℕ → ℕ → Type 0) → Role → ℕ → ℕ → Type 0
Replaced f Nothing p q = q ≡ p
Replaced f AVariable p q = q ≡ p
Replaced f Expression p q = f p q
Replaced f Predicate p q = f p q
Replaced f ASetName p q = q ≡ p
