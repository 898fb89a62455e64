-- What the first word of a command says.
use Rattle.commands.specs.declared.command.HoldCall.{HoldCall}

-- the calls, without their numbers
pub data CallVerb : Type 0 where
  Carrier : CallVerb
  Product : CallVerb
  Variable : CallVerb
  Set : CallVerb
  Formula : CallVerb
  Free : CallVerb
  Substitution : CallVerb
  Give : CallVerb
  Entry : CallVerb
  Predicate : CallVerb

-- the commands, without their numbers
pub data Verb : Type 0 where
  Book : Verb
  Use : Verb
  Call : CallVerb → Verb
  Step : Verb
  Check : Verb
  Hold : Verb
  WithHold : HoldCall → Verb
