-- What a call with its answer did, as one of seven effects, and the law over effects, from which the law over calls follows.
use Rattle.std.proofs.Common.{◌≡◌, ℕ, T, ◌⊎◌, ◌↔◌, List, [], ◌∷◌, Ok, Err}
use Rattle.logic.specs.Formulas.{In, Vocabulary}
use Rattle.logic.specs.Growing.{empty_vocabulary}
use Rattle.logic.specs.Meanings.{Value, Structure, Interpretation, true_in}
use Rattle.formulas.specs.declared.calls.Call.{Call}
use Rattle.calculus.specs.Derivations.{root}
use Rattle.states.specs.declared.entry.Origin.TheVariants.{Given, Concluded}
use Rattle.book.specs.Books.{Model}
use Rattle.book.specs.Runs.{Event, enters, gives, concludes, holds, previews, lifts, withdraws, asks_entry, asks_predicate}
use Rattle.book.specs.Law.{Once, names, Says, SaysOf, SaysStands}

-- what a call with its answer did: nothing if it was refused
pub data Effect : Type 0 where
  named : Call → ℕ → Effect
  gave : ℕ → ℕ → Effect
  concluded_by : ℕ → List ℕ → ℕ → Effect
  put_on_hold : ℕ → Effect
  lifted : ℕ → Effect
  withdrew : ℕ → Effect
  nothing : Effect

abbrev pub effect : Event → Effect
effect (enters c (Ok n)) = named c n
effect (enters c (Err why)) = nothing
effect (gives p (Ok e)) = gave e p
effect (gives p (Err why)) = nothing
effect (concludes xs hs cites (Ok e)) = concluded_by e cites (root xs hs).goal
effect (concludes xs hs cites (Err why)) = nothing
effect (holds e (Ok h)) = put_on_hold h.entry
effect (holds e (Err why)) = nothing
effect (previews h answer) = nothing
effect (lifts h (Ok u)) = lifted h.entry
effect (lifts h (Err why)) = nothing
effect (withdraws h (Ok c)) = withdrew h.entry
effect (withdraws h (Err why)) = nothing
effect (asks_entry e answer) = nothing
effect (asks_predicate p answer) = nothing

-- effects, newest first
abbrev pub Effects : Type 0
Effects = List Effect

-- the vocabulary that the effects describe
abbrev pub described : Effects → Vocabulary
described [] = empty_vocabulary
described (named c n ∷ ds) = names c n (described ds)
described (gave e p ∷ ds) = described ds
described (concluded_by e cites g ∷ ds) = described ds
described (put_on_hold r ∷ ds) = described ds
described (lifted r ∷ ds) = described ds
described (withdrew r ∷ ds) = described ds
described (nothing ∷ ds) = described ds

-- the rule e was given with the predicate p
abbrev pub Gives : ℕ → ℕ → Effect → Type 0
Gives e p (named c n) = ⊥
Gives e p (gave n q) = (n ≡ e) × (q ≡ p)
Gives e p (concluded_by n cites g) = ⊥
Gives e p (put_on_hold r) = ⊥
Gives e p (lifted r) = ⊥
Gives e p (withdrew r) = ⊥
Gives e p nothing = ⊥

-- the conclusion e was accepted, citing cites
abbrev pub Accepts : ℕ → List ℕ → Effect → Type 0
Accepts e cites (named c n) = ⊥
Accepts e cites (gave n q) = ⊥
Accepts e cites (concluded_by n cs g) = (n ≡ e) × (cs ≡ cites)
Accepts e cites (put_on_hold r) = ⊥
Accepts e cites (lifted r) = ⊥
Accepts e cites (withdrew r) = ⊥
Accepts e cites nothing = ⊥

-- the conclusion e was accepted with the predicate p
abbrev pub Reaches : ℕ → ℕ → Effect → Type 0
Reaches e p (named c n) = ⊥
Reaches e p (gave n q) = ⊥
Reaches e p (concluded_by n cs g) = (n ≡ e) × (g ≡ p)
Reaches e p (put_on_hold n) = ⊥
Reaches e p (lifted n) = ⊥
Reaches e p (withdrew n) = ⊥
Reaches e p nothing = ⊥

abbrev pub Withdraws : ℕ → Effect → Type 0
Withdraws r (named c n) = ⊥
Withdraws r (gave n q) = ⊥
Withdraws r (concluded_by n cs g) = ⊥
Withdraws r (put_on_hold n) = ⊥
Withdraws r (lifted n) = ⊥
Withdraws r (withdrew n) = n ≡ r
Withdraws r nothing = ⊥

abbrev pub HoldsNow : ℕ → Effect → Type 0
HoldsNow r (named c n) = ⊥
HoldsNow r (gave n q) = ⊥
HoldsNow r (concluded_by n cs g) = ⊥
HoldsNow r (put_on_hold n) = n ≡ r
HoldsNow r (lifted n) = ⊥
HoldsNow r (withdrew n) = ⊥
HoldsNow r nothing = ⊥

-- a hold on r was ended
abbrev pub Frees : ℕ → Effect → Type 0
Frees r (named c n) = ⊥
Frees r (gave n q) = ⊥
Frees r (concluded_by n cs g) = ⊥
Frees r (put_on_hold n) = ⊥
Frees r (lifted n) = n ≡ r
Frees r (withdrew n) = n ≡ r
Frees r nothing = ⊥

abbrev pub WasGiven : Effects → ℕ → ℕ → Type 0
WasGiven ds e p = Once (Gives e p) ds

abbrev pub WasConcluded : Effects → ℕ → List ℕ → Type 0
WasConcluded ds e cites = Once (Accepts e cites) ds

abbrev pub Accepted : Effects → ℕ → Type 0
Accepted ds e = (cites : List ℕ) × WasConcluded ds e cites

abbrev pub IsWithdrawn : Effects → ℕ → Type 0
IsWithdrawn ds r = Once (Withdraws r) ds

-- from a granted hold until a granted lift or until withdrawn
abbrev pub IsHeld : Effects → ℕ → Type 0
IsHeld [] r = ⊥
IsHeld (d ∷ ds) r = HoldsNow r d ⊎ (IsHeld ds r × (Frees r d → ⊥))

-- the given rule r is in the support of the entry e
pub data Support (ds : Effects) : ℕ → ℕ → Type 0 where
  itself : {r : ℕ} → (p : ℕ) → WasGiven ds r p → Support ds r r
  cited : {e r : ℕ} → (cites : List ℕ) → WasConcluded ds e cites → (c : ℕ) → In c cites → Support ds c r → Support ds e r

-- r was withdrawn since e was accepted
abbrev pub WithdrawnSince : Effects → ℕ → ℕ → Type 0
WithdrawnSince [] e r = ⊥
WithdrawnSince (d ∷ ds) e r = (Withdraws r d × Accepted ds e) ⊎ WithdrawnSince ds e r

-- e was accepted while r was held
abbrev pub AcceptedWhileHeld : Effects → ℕ → ℕ → Type 0
AcceptedWhileHeld [] e r = ⊥
AcceptedWhileHeld (d ∷ ds) e r = (((cites : List ℕ) × Accepts e cites d) × IsHeld ds r) ⊎ AcceptedWhileHeld ds e r

pub record EffectsLaw (ds : Effects) (b : Model) : Type 0 where
  -- every predicate that the book says stands is true wherever all given rules not yet withdrawn are
  pub sound : (p : ℕ) → SaysStands b p → (w : Structure) (f : ℕ → Value) → Interpretation (described ds) w f →
      ((r q : ℕ) → WasGiven ds r q → (IsWithdrawn ds r → ⊥) → T (true_in (described ds) w f q)) → T (true_in (described ds) w f p)
  -- a conclusion stands exactly when it was accepted and no given rule in its support has been withdrawn since
  pub stands_when : (e : ℕ) → ((p : ℕ) × SaysOf b e Concluded p) ↔ (Accepted ds e × ((r : ℕ) → Support ds e r → WithdrawnSince ds e r → ⊥))
  -- a given rule stands exactly until it is withdrawn
  pub given_stands : (e : ℕ) → ((p : ℕ) × SaysOf b e Given p) ↔ (((p : ℕ) × WasGiven ds e p) × (IsWithdrawn ds e → ⊥))
  -- no conclusion accepted while a rule was held has that rule in its support
  pub untainted : (e r : ℕ) → AcceptedWhileHeld ds e r → Support ds e r → ⊥
  pub entries : (e p : ℕ) → (Says b e Given p ↔ WasGiven ds e p) × (Says b e Concluded p ↔ Once (Reaches e p) ds)
