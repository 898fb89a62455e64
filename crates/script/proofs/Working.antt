-- The worked example, whole.
use Rattle.rules.specs.Examples as rules
use Rattle.rules.specs.Theories.{standard}
use Rattle.rules.proofs.Examples.{worked_example}
use Rattle.book.proofs.Example.{worked_run}
use Rattle.script.specs.Worked.{WorkedExample}

pub whole_example : WorkedExample
whole_example = (worked_example, worked_run standard rules.right_steps rules.right_list worked_example.1 worked_example.2)
