-- One layer of types over a record, as the code reckons it from what is stored of the operands.
use Rattle.std.specs.Prelude.{◌≡◌, ℕ, Bool, true, cond, is_some, Some, None, Result, MatchResult, ◌==◌}
use Rattle.std.specs.Option.{unwrap_or}
use Rattle.logic.specs.Formulas.{Vocabulary, through, variable_type, element_type}
use Rattle.logic.specs.Deciding.{product_number, type_of, type_of_layer}
use Rattle.formulas.specs.declared.kinds.Role.{Role}
use Rattle.formulas.specs.declared.kinds.Role.TheVariants.{Nothing, AVariable, Expression, Predicate, ASetName}
use Rattle.formulas.specs.declared.records.Record.{Record}
use Rattle.formulas.specs.declared.refusals.Refusal.{Refusal}
use Rattle.formulas.specs.Kinds.{is_variable, is_pair, is_equal, is_member}
use Rattle.formulas.specs.Records.{shape_of}
use Rattle.vocabulary.specs.declared.facts.Facts.{Facts}
use Rattle.vocabulary.specs.Calls.{objection, weight_with, depth_with}

-- what an operand contributes: f of it if it is a formula, else d
abbrev pub part : {A : Type 0} → A → (ℕ → A) → Role → ℕ → A
part d f Nothing n = d
part d f AVariable n = d
part d f Expression n = f n
part d f Predicate n = f n
part d f ASetName n = d

abbrev pub type_from : Vocabulary → Record → ℕ → ℕ → ℕ
type_from v r first second =
    cond (is_variable r.kind) (variable_type v r.a)
    (cond (is_pair r.kind) (unwrap_or (product_number v first second) 0) 0)

abbrev pub agree_from : Vocabulary → Record → ℕ → ℕ → Bool
agree_from v r first second =
    cond (is_pair r.kind) (is_some (product_number v first second))
    (cond (is_equal r.kind) (first == second)
    (cond (is_member r.kind) (first == element_type v r.b) true))

-- the type, weight and depth that a record has once it is entered
pub record Fitting (v : Vocabulary) (r : Record) (f : Facts) : Type 0 where
  pub ty : f.ty ≡ type_of_layer v (through (type_of v) (shape_of r))
  pub weight : f.weight ≡ weight_with v (shape_of r)
  pub depth : f.depth ≡ depth_with v (shape_of r)

-- nothing stands against the record, which has these facts; or the first thing that does
abbrev pub Admits : Vocabulary → Record → Result Facts Refusal → Type 0
Admits v r answer = MatchResult answer (λ f. (objection v r ≡ None) × Fitting v r f) (λ e. objection v r ≡ Some e)
