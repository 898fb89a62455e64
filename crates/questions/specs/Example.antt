-- The worked example: how its vocabulary is entered, and what is so of it.
use Rattle.std.specs.Prelude.{◌≡◌, List, [], ◌∷◌, Ok}
use Rattle.logic.specs.Examples as logic
use Rattle.logic.specs.Formulas.{Vocabulary}
use Rattle.logic.specs.Growing.{empty_vocabulary}
use Rattle.formulas.specs.declared.calls.Call.{Call}
use Rattle.formulas.specs.declared.calls.Call.TheVariants.{NewCarrier, NewVariable, NewSetName, EnterFormula}
use Rattle.vocabulary.specs.Calls.{called}

-- the vocabulary after calls
abbrev pub entered : Vocabulary → List Call → Vocabulary
entered v [] = v
entered v (c ∷ cs) = entered (called v c).after cs

-- a carrier; variables m, c, d; sets senior, reduce; and the formulas 0 to 16
abbrev pub example_calls : List Call
example_calls =
    NewCarrier ∷ NewVariable 0 ∷ NewVariable 0 ∷ NewVariable 0 ∷ NewSetName 0 ∷ NewSetName 0 ∷
    EnterFormula 0 1 0 ∷ EnterFormula 12 0 0 ∷ EnterFormula 12 0 1 ∷ EnterFormula 7 1 2 ∷ EnterFormula 9 1 3 ∷
    EnterFormula 0 0 0 ∷ EnterFormula 12 5 0 ∷ EnterFormula 12 5 1 ∷ EnterFormula 7 6 7 ∷ EnterFormula 9 1 1 ∷
    EnterFormula 0 2 0 ∷ EnterFormula 11 10 0 ∷ EnterFormula 4 11 0 ∷ EnterFormula 10 2 12 ∷
    EnterFormula 11 10 10 ∷ EnterFormula 4 14 0 ∷ EnterFormula 10 2 15 ∷ []

-- the calls lead to the example; entering (7, 1, 2) again answers 3; and what the logic says of the example
abbrev pub WorkedExample : Type 0
WorkedExample = (entered empty_vocabulary example_calls ≡ logic.example) × ((called logic.example (EnterFormula 7 1 2)).answer ≡ Ok 3) × logic.WorkedExample
