use Rattle.std.proofs.Common.{◌≡◌, sym, ap, ◌∙◌, rules, arith}
use Rattle.std.specs.Option.{option_map}
use Rattle.commands.specs.declared.command.Command.TheVariants as commands
use Rattle.commands.specs.declared.command.HoldCall.TheVariants.{Preview, Lift, Withdraw}
use Rattle.commands.specs.Verbs.{Carrier, Product, Variable, Formula, Substitution, Entry, Predicate, Call, Step, Check, Hold, WithHold}
use Rattle.commands.specs.Commands.{word_of}
use Rattle.commands.specs.Words.{words, numbers}
use Rattle.commands.proofs.Reading.{spelled, reads_command, step_command}
use Rattle.commands.proofs.command.read_command.Goals as goal

pub returns-in-carrier : goal.returns-in-carrier
returns-in-carrier c = reads_command (Call Carrier) c.args.word.now _ _ (spelled (word_of (Call Carrier)) c.args.word.now (omega arith) (search rules)) (search rules)

pub returns-in_ok-s-in-product : goal.returns-in_ok-s-in-product
returns-in_ok-s-in-product c = reads_command (Call Product) c.args.word.now _ _ (spelled (word_of (Call Product)) c.args.word.now (omega arith) (search rules)) (search rules)

pub returns-in-variable : goal.returns-in-variable
returns-in-variable c = reads_command (Call Variable) c.args.word.now _ _ (spelled (word_of (Call Variable)) c.args.word.now (omega arith) (search rules)) (search rules)

pub returns-in_ok-kind-in-formula : goal.returns-in_ok-kind-in-formula
returns-in_ok-kind-in-formula c = reads_command (Call Formula) c.args.word.now _ _ (spelled (word_of (Call Formula)) c.args.word.now (omega arith) (search rules)) (search rules)

pub returns-in_ok-q-in-substitution : goal.returns-in_ok-q-in-substitution
returns-in_ok-q-in-substitution c = reads_command (Call Substitution) c.args.word.now _ _ (spelled (word_of (Call Substitution)) c.args.word.now (omega arith) (search rules)) (search rules)

pub returns-in-entry : goal.returns-in-entry
returns-in-entry c = reads_command (Call Entry) c.args.word.now _ _ (spelled (word_of (Call Entry)) c.args.word.now (omega arith) (search rules)) (search rules)

pub returns-in-predicate : goal.returns-in-predicate
returns-in-predicate c = reads_command (Call Predicate) c.args.word.now _ _ (spelled (word_of (Call Predicate)) c.args.word.now (omega arith) (search rules)) (search rules)

pub returns-in-step : goal.returns-in-step
returns-in-step c =
    let ws = words c.args.rest.text.now in
    let m : c.map-in-step.result ≡ option_map commands.Step c.read_step.result = search rules in
    reads_command Step c.args.word.now _ _ (spelled (word_of Step) c.args.word.now (omega arith) (search rules)) (m ∙ ap (option_map commands.Step) c.read_step.ensures ∙ sym (step_command (numbers 16 9 ws)))

pub returns-in-check : goal.returns-in-check
returns-in-check c = reads_command Check c.args.word.now _ _ (spelled (word_of Check) c.args.word.now (omega arith) (search rules)) (search rules)

pub returns-in-hold : goal.returns-in-hold
returns-in-hold c = reads_command Hold c.args.word.now _ _ (spelled (word_of Hold) c.args.word.now (omega arith) (search rules)) (search rules)

pub returns-in-preview : goal.returns-in-preview
returns-in-preview c = reads_command (WithHold Preview) c.args.word.now _ _ (spelled (word_of (WithHold Preview)) c.args.word.now (omega arith) (search rules)) (search rules)

pub returns-in-lift : goal.returns-in-lift
returns-in-lift c = reads_command (WithHold Lift) c.args.word.now _ _ (spelled (word_of (WithHold Lift)) c.args.word.now (omega arith) (search rules)) (search rules)

pub returns-in-withdraw : goal.returns-in-withdraw
returns-in-withdraw c = reads_command (WithHold Withdraw) c.args.word.now _ _ (spelled (word_of (WithHold Withdraw)) c.args.word.now (omega arith) (search rules)) (search rules)
