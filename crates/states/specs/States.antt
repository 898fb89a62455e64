-- What an entry becomes, by its state, the event and its origin.
use Rattle.std.specs.Prelude.{Bool, true, false}
use Rattle.states.specs.declared.entry.Origin.{Origin}
use Rattle.states.specs.declared.entry.Origin.TheVariants.{Given, Concluded}
use Rattle.states.specs.declared.entry.State.{State}
use Rattle.states.specs.declared.entry.State.TheVariants.{Standing, Held, Withdrawn, Fallen}
use Rattle.states.specs.declared.entry.Event.{Event}
use Rattle.states.specs.declared.entry.Event.TheVariants.{Hold, Lift, Withdraw, Loss}

abbrev pub becomes : State → Event → Origin → State
becomes Standing Hold Given = Held
becomes Standing Hold Concluded = Standing
becomes Standing Lift o = Standing
becomes Standing Withdraw o = Standing
becomes Standing Loss Given = Standing
becomes Standing Loss Concluded = Fallen
becomes Held Hold o = Held
becomes Held Lift o = Standing
becomes Held Withdraw o = Withdrawn
becomes Held Loss o = Held
becomes Withdrawn e o = Withdrawn
becomes Fallen e o = Fallen

abbrev pub is_given : Origin → Bool
is_given Given = true
is_given Concluded = false

abbrev pub is_standing : State → Bool
is_standing Standing = true
is_standing Held = false
is_standing Withdrawn = false
is_standing Fallen = false

abbrev pub is_held : State → Bool
is_held Standing = false
is_held Held = true
is_held Withdrawn = false
is_held Fallen = false

-- an entry stands while it is standing or held
abbrev pub stands : State → Bool
stands Standing = true
stands Held = true
stands Withdrawn = false
stands Fallen = false
