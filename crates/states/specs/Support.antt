-- What one entry says of itself: the rules under it, what a lost rule makes of it, and what is told of it.
use Rattle.std.specs.Prelude.{ℕ, Bool, false, cond, not, ◌&&◌, ◌==◌, slice_index_or}
use Rattle.states.specs.declared.entry.Entry.{Entry}
use Rattle.states.specs.declared.entry.EntryFacts.{EntryFacts}
use Rattle.states.specs.declared.entry.State.{State}
use Rattle.states.specs.declared.entry.Event.{Event}
use Rattle.states.specs.States.{becomes, stands, is_standing, is_given}

-- the given rule r is in the support of x
abbrev pub in_support : ℕ → Entry → Bool
in_support r x = slice_index_or x.support r false

abbrev pub with_state : Entry → State → Entry
with_state x s = record { origin = x.origin; predicate = x.predicate; state = s; count = x.count; citations = x.citations; support = x.support }

-- x is a standing conclusion whose support has the rule r
abbrev pub falls_with : ℕ → Entry → Bool
falls_with r x = in_support r x && (not (is_given x.origin) && is_standing x.state)

-- x after the loss of the rule r
abbrev pub lose : ℕ → Entry → Entry
lose r x = with_state x (cond (in_support r x) (becomes x.state Event.Loss x.origin) x.state)

abbrev pub facts : Entry → EntryFacts
facts x = record { origin = x.origin; predicate = x.predicate; state = x.state }

-- x stands and has the predicate p
abbrev pub stands_with : ℕ → Entry → Bool
stands_with p x = x.predicate == p && stands x.state
