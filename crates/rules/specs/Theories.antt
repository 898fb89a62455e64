-- The built theories: the rules of a range of numbers, and their instances.
use Rattle.std.specs.Prelude.{Bool, ◌≡◌, ℕ, ◌-◌, cond, ◌&&◌, T, ◌↔◌, List, nat_le, slice_index}
use Rattle.logic.specs.Formulas.{Vocabulary}
use Rattle.logic.specs.Meanings.{Sequent as Seq}
use Rattle.logic.specs.Rules.{Instance}
use Rattle.logic.specs.Numbers.{number, is_rule}
use Rattle.logic.specs.declared.rule.Rule.{Rule}
use Rattle.calculus.specs.declared.step.Step.{Step}
use Rattle.calculus.specs.Theories.{Meaning, joined}
use Rattle.rules.specs.Tables.{arities}

-- the step is an instance of the rule that has its number
abbrev pub OfTheTable : Vocabulary → Step → Seq → List Seq → Type 0
OfTheTable v x s ps = (r : Rule) × (number r ≡ x.rule) × Instance v r x.a x.b x.c ps s

-- r is the number of a rule from low to high
abbrev pub within : ℕ → ℕ → ℕ → Bool
within low high r = is_rule r && (nat_le low r && nat_le r high)

-- the theory of the rules from low to high
abbrev pub built : ℕ → ℕ → Meaning
built low high = record {
  known = within low high;
  arity = λ r. cond (within low high r) (slice_index arities (r - 1)) 0;
  instance = λ v x s ps. T (within low high x.rule) × OfTheTable v x s ps;
}

-- the three theories joined
abbrev pub standard : Meaning
standard = joined (built 1 16) (joined (built 17 20) (built 21 25))

-- the instances of the three joined are those of the 25 rules
abbrev pub ThreeAreTheTable : Type 0
ThreeAreTheTable = (v : Vocabulary) (x : Step) (s : Seq) (ps : List Seq) → standard.instance v x s ps ↔ OfTheTable v x s ps
