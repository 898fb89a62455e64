-- The worked example with two derivations over it: one is right, the other fails at its second step.
use Rattle.std.specs.Prelude.{◌≡◌, ℕ, List, [], ◌∷◌}
use Rattle.logic.specs.Examples.{example}
use Rattle.logic.specs.Rules.{◌⊢◌}
use Rattle.calculus.specs.declared.refusal.Fault.TheVariants.{NoInstance}
use Rattle.calculus.specs.declared.step.Step.{Step}
use Rattle.calculus.specs.Derivations.{root, RightDerivation, FirstFault}
use Rattle.questions.specs.Example as vocabulary
use Rattle.logic.specs.Numbers.{number}
use Rattle.rules.specs.Theories.{standard}
use Rattle.logic.specs.declared.rule.Rule.{Rule}
use Rattle.logic.specs.declared.rule.Rule.TheVariants.{Hyp, ImpL, AllL, AllR}

-- a step by a rule of at most one premise
abbrev pub step : Rule → (goal start count first a b c : ℕ) → Step
step r goal start count first a b c = record { rule = number r; goal = goal; start = start; count = count; first = first; second = 0; a = a; b = b; c = c }

-- HYP {4, 6, 7} ⊢ 7; IMP_L with 8, {4, 6, 8} ⊢ 7; ALL_L with 4, 5, 8, {4, 6} ⊢ 7
abbrev pub right_steps : List Step
right_steps = step Hyp 7 0 3 0 0 0 0 ∷ step ImpL 7 3 3 0 8 0 0 ∷ step AllL 7 0 2 1 4 5 8 ∷ []

abbrev pub right_list : List ℕ
right_list = 4 ∷ 6 ∷ 7 ∷ 4 ∷ 6 ∷ 8 ∷ []

-- HYP {1} ⊢ 1; ALL_R {1} ⊢ 9, whose variable is free in the hypothesis 1
abbrev pub wrong_steps : List Step
wrong_steps = step Hyp 1 0 1 0 0 0 0 ∷ step AllR 9 0 1 0 0 0 0 ∷ []

abbrev pub wrong_list : List ℕ
wrong_list = 1 ∷ []

-- what the vocabulary says of the example; the first derivation is right, and its root is {4, 6} ⊢ 7; the first fault of the second
-- is that step 1 is no instance
abbrev pub WorkedExample : Type 0
WorkedExample = vocabulary.WorkedExample ×
    RightDerivation standard example right_steps right_list × (root right_steps right_list ≡ (4 ∷ 6 ∷ [] ⊢ 7)) ×
    FirstFault (record { fault = NoInstance; step = 1 }) standard example wrong_steps wrong_list
