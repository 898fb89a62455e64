-- The worked example, computed.
use Rattle.std.proofs.Common.{◌≡◌, Ok, refl}
use Rattle.logic.specs.Examples as logic
use Rattle.logic.specs.Formulas.{node, variable_type, ask, descend, weight, depth}
use Rattle.logic.specs.Growing.{empty_vocabulary}
use Rattle.logic.specs.Deciding.{type_of}
use Rattle.logic.proofs.Examples.{worked_example_stands}
use Rattle.formulas.specs.declared.calls.Call.TheVariants.{EnterFormula}
use Rattle.vocabulary.specs.Calls.{called}
use Rattle.questions.specs.Example.{entered, example_calls, WorkedExample}

built : entered empty_vocabulary example_calls ≡ logic.example
unfolding node variable_type ask descend weight depth type_of
built = refl

again : (called logic.example (EnterFormula 7 1 2)).answer ≡ Ok 3
unfolding node variable_type ask descend weight depth type_of
again = refl

pub worked_example : WorkedExample
worked_example = (built, again, worked_example_stands)
