-- The entries of a book as a list, and what each call on them answers and makes of them.
use Rattle.std.specs.Prelude.{ℕ, Bool, true, false, cond, ◌&&◌, List, [], ◌∷◌, ◌++◌, map, length, replicate, Ok, Err, count_by, position, unwrap_or, Result, nat_lt, slice_index_or, slice_set}
use Rattle.states.specs.declared.entry.Entry.{Entry}
use Rattle.states.specs.declared.entry.EntryFacts.{EntryFacts}
use Rattle.states.specs.declared.entry.Origin.TheVariants.{Given}
use Rattle.states.specs.declared.entry.State.TheVariants.{Standing}
use Rattle.states.specs.declared.entry.Event.{Event}
use Rattle.states.specs.declared.refusal.Refusal.{Refusal}
use Rattle.states.specs.declared.refusal.Refusal.TheVariants.{EntriesFull, UnknownEntry, NotAGivenRule, NotStanding, NotHeld}
use Rattle.states.specs.Support.{with_state, falls_with, lose, facts}
use Rattle.states.specs.States.{becomes, is_held, is_standing, is_given}

-- what a call answers, and the entries afterwards
pub record Change (A : Type 0) : Type 0 where
  pub answer : Result A Refusal
  pub after : List Entry

-- a refusal leaves the entries as they were
abbrev pub refuse : {A : Type 0} → Refusal → List Entry → Change A
refuse why es = record { answer = Err why; after = es }

abbrev pub grant : {A : Type 0} → A → List Entry → Change A
grant x es = record { answer = Ok x; after = es }

abbrev pub no_rules : List Bool
no_rules = replicate 512 false

abbrev pub no_citations : List ℕ
no_citations = replicate 16 0

-- what a read past the end gives: 0, first variants, empty arrays
abbrev pub no_entry : Entry
no_entry = record { origin = Given; predicate = 0; state = Standing; count = 0; citations = []; support = [] }

abbrev pub at : List Entry → ℕ → Entry
at es e = slice_index_or es e no_entry

-- one entry more, if there is room
abbrev pub add : List Entry → Entry → Change ℕ
add es x = cond (nat_lt (length es) 512) (grant (length es) (es ++ x ∷ [])) (refuse EntriesFull es)

-- the support of a given rule is itself
abbrev pub given_entry : ℕ → ℕ → Entry
given_entry e p = record { origin = Given; predicate = p; state = Standing; count = 0; citations = no_citations; support = slice_set no_rules e true }

abbrev pub give : List Entry → ℕ → Change ℕ
give es p = add es (given_entry (length es) p)

-- the entry e after an event
abbrev pub changed : List Entry → ℕ → Event → List Entry
changed es e event = slice_set es e (with_state (at es e) (becomes (at es e).state event (at es e).origin))

abbrev pub hold : List Entry → ℕ → Change (Unit {0})
hold es e =
    cond (nat_lt e (length es))
    (cond (is_given (at es e).origin)
    (cond (is_standing (at es e).state) (grant tt (changed es e Event.Hold)) (refuse NotStanding es))
    (refuse NotAGivenRule es))
    (refuse UnknownEntry es)

-- e is an entry and held
abbrev pub holds_entry : List Entry → ℕ → Bool
holds_entry es e = nat_lt e (length es) && is_held (at es e).state

abbrev pub lift : List Entry → ℕ → Change (Unit {0})
lift es e = cond (holds_entry es e) (grant tt (changed es e Event.Lift)) (refuse NotHeld es)

-- how many standing conclusions fall with r, and the lowest of them
abbrev pub falling : List Entry → ℕ → ℕ × ℕ
falling es r = (count_by (falls_with r) es, unwrap_or (position (falls_with r) es) 0)

abbrev pub preview : List Entry → ℕ → Result (ℕ × ℕ) Refusal
preview es e = cond (holds_entry es e) (Ok (falling es e)) (Err NotHeld)

abbrev pub withdraw : List Entry → ℕ → Change (ℕ × ℕ)
withdraw es e = cond (holds_entry es e) (grant (falling es e) (map (lose e) (changed es e Event.Withdraw))) (refuse NotHeld es)

abbrev pub ask : List Entry → ℕ → Result EntryFacts Refusal
ask es e = cond (nat_lt e (length es)) (Ok (facts (at es e))) (Err UnknownEntry)
