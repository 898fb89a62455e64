-- How an entry is told.
use Rattle.std.specs.Prelude.{ℕ, List, ◌++◌, codes, decimal}
use Rattle.states.specs.declared.entry.EntryFacts.{EntryFacts}
use Rattle.states.specs.declared.entry.Origin.{Origin}
use Rattle.states.specs.declared.entry.Origin.TheVariants.{Given, Concluded}
use Rattle.states.specs.declared.entry.State.{State}
use Rattle.states.specs.declared.entry.State.TheVariants.{Standing, Held, Withdrawn, Fallen}

abbrev pub origin_text : Origin → List ℕ
origin_text Given = codes "given"
origin_text Concluded = codes "concluded"

abbrev pub state_text : State → List ℕ
state_text Standing = codes "standing"
state_text Held = codes "held"
state_text Withdrawn = codes "withdrawn"
state_text Fallen = codes "fallen"

abbrev pub facts_text : EntryFacts → List ℕ
facts_text e = origin_text e.origin ++ (codes " " ++ (decimal e.predicate ++ (codes " " ++ state_text e.state)))
