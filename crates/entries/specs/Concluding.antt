-- Concluding from cited entries, once the derivation has passed.
use Rattle.std.specs.Prelude.{ℕ, ◌+◌, ◌-◌, ◌<◌, Bool, cond, not, ◌&&◌, List, [], ◌∷◌, ◌++◌, map, length, replicate, Some, None, Option, All, position, nat_le, nat_lt}
use Rattle.std.specs.List.{list_any, enumerate_from, range_with_len}
use Rattle.calculus.specs.declared.refusal.Fault.TheVariants.{Size}
use Rattle.states.specs.declared.entry.Entry.{Entry}
use Rattle.states.specs.declared.entry.Origin.TheVariants.{Concluded}
use Rattle.states.specs.declared.entry.State.TheVariants.{Standing}
use Rattle.states.specs.declared.refusal.Refusal.{Refusal}
use Rattle.states.specs.declared.refusal.Refusal.TheVariants.{Derivation, UnknownCitation, CitationNotStanding, CitationHeld, HypothesesDiffer}
use Rattle.entries.specs.Scans.{subset}
use Rattle.states.specs.States.{stands, is_held}
use Rattle.states.specs.Support.{in_support}
use Rattle.entries.specs.Lists.{Change, refuse, at, add}

-- the first place, from place on, of an entry that is unknown or not above the one before it; low is one more than that one
abbrev pub disorder : ℕ → ℕ → ℕ → List ℕ → Option ℕ
disorder n place low [] = None
disorder n place low (c ∷ cs) = cond (nat_lt c n && nat_le low c) (disorder n (place + 1) (c + 1) cs) (Some place)

-- all are entries
abbrev pub Known : List Entry → List ℕ → Type 0
Known es cites = All (λ c. c < length es) cites

abbrev pub does_not_stand : List Entry → ℕ → Bool
does_not_stand es c = not (stands (at es c).state)

-- a held rule is in the support of the entry c
abbrev pub support_held : List Entry → ℕ → Bool
support_held es c = list_any (λ (r, x). in_support r (at es c) && is_held x.state) (enumerate_from 0 es)

abbrev pub predicate_of : List Entry → ℕ → ℕ
predicate_of es c = (at es c).predicate

abbrev pub predicates : List Entry → List ℕ → List ℕ
predicates es cites = map (predicate_of es) cites

abbrev pub same_set : List ℕ → List ℕ → Bool
same_set ns ms = subset ns ms && subset ms ns

-- r is in the support of an entry cited
abbrev pub joined : List Entry → List ℕ → ℕ → Bool
joined es cites r = list_any (λ c. in_support r (at es c)) cites

-- a set of rules as a row of marks
unfoldable pub row : (ℕ → Bool) → List Bool
row set = map set (range_with_len 0 512)

abbrev pub padded : List ℕ → List ℕ
padded cites = cites ++ replicate (16 - length cites) 0

-- the support of a conclusion joins the supports of the entries that it cites
abbrev pub conclusion : List Entry → List ℕ → ℕ → Entry
conclusion es cites goal =
    record { origin = Concluded; predicate = goal; state = Standing; count = length cites; citations = padded cites; support = row (joined es cites) }

abbrev pub unless : Option ℕ → (ℕ → Refusal) → List Entry → Change ℕ → Change ℕ
unless None why es otherwise = otherwise
unless (Some place) why es otherwise = refuse (why place) es

-- the checks over the citations, in their order, each before what follows
abbrev pub cite : List Entry → ℕ → List ℕ → List ℕ → Change ℕ
cite es goal hypotheses cites =
    unless (disorder (length es) 0 0 cites) UnknownCitation es
    (unless (position (does_not_stand es) cites) CitationNotStanding es
    (unless (position (support_held es) cites) CitationHeld es
    (cond (same_set (map (predicate_of es) cites) hypotheses) (add es (conclusion es cites goal)) (refuse HypothesesDiffer es))))

-- the sizes are a fault of the derivation as a whole
abbrev pub size : Refusal
size = Derivation (record { fault = Size; step = 0 })

abbrev pub conclude : List Entry → ℕ → List ℕ → List ℕ → Change ℕ
conclude es goal hypotheses cites = cond (nat_le (length cites) 16) (cite es goal hypotheses cites) (refuse size es)
