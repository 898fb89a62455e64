-- How many premises each rule takes.
use Rattle.std.specs.Prelude.{◌≡◌, ℕ, ◌-◌, Bool, not, ◌&&◌, List, [], ◌∷◌, length, ◌==◌, slice_index}
use Rattle.logic.specs.Formulas.{Vocabulary}
use Rattle.logic.specs.Meanings.{Sequent as Seq}
use Rattle.logic.specs.Rules.{Instance}
use Rattle.logic.specs.Numbers.{number}
use Rattle.logic.specs.declared.rule.Rule.{Rule}
use Rattle.logic.specs.declared.rule.Rule.TheVariants.{Mon, FalseL}

-- how many premises each rule takes, by its number less one
abbrev pub arities : List ℕ
arities = 0 ∷ 1 ∷ 2 ∷ 0 ∷ 2 ∷ 1 ∷ 1 ∷ 1 ∷ 2 ∷ 2 ∷ 1 ∷ 1 ∷ 1 ∷ 0 ∷ 1 ∷ 2 ∷ 1 ∷ 1 ∷ 1 ∷ 1 ∷ 0 ∷ 1 ∷ 1 ∷ 1 ∷ 2 ∷ []

abbrev pub arity : Rule → ℕ
arity r = slice_index arities (number r - 1)

-- an instance has as many premises as the table says
abbrev pub TableRight : Type 0
TableRight = (v : Vocabulary) (r : Rule) (a b c : ℕ) (premises : List Seq) (s : Seq) → Instance v r a b c premises s → length premises ≡ arity r

-- the rules that have one line for the goals of a step: all but MON and FALSE_L
abbrev pub by_line : Rule → Bool
by_line r = not (number r == number Mon) && not (number r == number FalseL)
