-- The law of a book, read from its calls and their answers alone.
use Rattle.std.specs.Prelude.{◌≡◌, ℕ, zero, suc, ◌≤◌, T, ◌⊎◌, ◌↔◌, List, [], ◌∷◌, Some, None, Ok, Err, Option}
use Rattle.logic.specs.Formulas.{In, Shape, falsity, Sort, carrier, Vocabulary}
use Rattle.logic.specs.Formulas as logic
use Rattle.logic.specs.Growing.{empty_vocabulary}
use Rattle.logic.specs.Meanings.{Value, Structure, Interpretation, true_in}
use Rattle.formulas.specs.declared.calls.Call.{Call}
use Rattle.formulas.specs.declared.calls.Call.TheVariants.{NewCarrier, NewProduct, NewVariable, NewSetName, EnterFormula}
use Rattle.formulas.specs.declared.kinds.Kind.{Kind}
use Rattle.formulas.specs.Kinds.{kind_numbered}
use Rattle.formulas.specs.Records.{shape}
use Rattle.calculus.specs.declared.step.Step.{Step}
use Rattle.calculus.specs.Theories.{Meaning}
use Rattle.calculus.specs.Derivations.{root}
use Rattle.states.specs.declared.entry.Origin.{Origin}
use Rattle.states.specs.declared.entry.Origin.TheVariants.{Given, Concluded}
use Rattle.states.specs.declared.entry.State.{State}
use Rattle.states.specs.States.{stands}
use Rattle.book.specs.declared.hold.Hold.{Hold}
use Rattle.book.specs.Books.{Model, ask_entry, ask_predicate}
use Rattle.book.specs.Runs.{Event, enters, gives, concludes, holds, previews, lifts, withdraws, asks_entry, asks_predicate, Run}

-- calls with their answers, newest first
abbrev pub Trace : Type 0
Trace = List Event

-- one of the calls is such
abbrev pub Once : {A : Type 0} → (A → Type 0) → List A → Type 0
Once P [] = ⊥
Once P (x ∷ before) = P x ⊎ Once P before

-- What one call did. Granted and accepted mean not refused; a hold is on the entry that it carries.
-- it gave the rule e with the predicate p
abbrev pub Gives : ℕ → ℕ → Event → Type 0
Gives e p x = x ≡ gives p (Ok e)

-- it accepted the conclusion e, citing cites
abbrev pub Accepts : ℕ → List ℕ → Event → Type 0
Accepts e cites x = (steps : List Step) × (hypotheses : List ℕ) × (x ≡ concludes steps hypotheses cites (Ok e))

-- it accepted the conclusion e with the predicate p, the root's goal
abbrev pub Reaches : ℕ → ℕ → Event → Type 0
Reaches e p x = (steps : List Step) × (hypotheses cites : List ℕ) × (x ≡ concludes steps hypotheses cites (Ok e)) × ((root steps hypotheses).goal ≡ p)

abbrev pub HoldsNow : ℕ → Event → Type 0
HoldsNow r x = (e : ℕ) × (h : Hold) × (x ≡ holds e (Ok h)) × (h.entry ≡ r)

abbrev pub Lifts : ℕ → Event → Type 0
Lifts r x = (h : Hold) × (x ≡ lifts h (Ok tt)) × (h.entry ≡ r)

abbrev pub Withdraws : ℕ → Event → Type 0
Withdraws r x = (h : Hold) × (fell : ℕ × ℕ) × (x ≡ withdraws h (Ok fell)) × (h.entry ≡ r)

-- What a run's calls did.
abbrev pub WasGiven : Trace → ℕ → ℕ → Type 0
WasGiven t e p = Once (Gives e p) t

abbrev pub WasConcluded : Trace → ℕ → List ℕ → Type 0
WasConcluded t e cites = Once (Accepts e cites) t

abbrev pub Accepted : Trace → ℕ → Type 0
Accepted t e = (cites : List ℕ) × WasConcluded t e cites

abbrev pub IsWithdrawn : Trace → ℕ → Type 0
IsWithdrawn t r = Once (Withdraws r) t

-- from a granted hold until a granted lift or until withdrawn
abbrev pub IsHeld : Trace → ℕ → Type 0
IsHeld [] r = ⊥
IsHeld (x ∷ before) r = HoldsNow r x ⊎ (IsHeld before r × (Lifts r x → ⊥) × (Withdraws r x → ⊥))

-- The given rule r is in the support of the entry e:
-- the support of a given rule is itself, the support of a conclusion joins the supports of the entries that it cites.
pub data Support (t : Trace) : ℕ → ℕ → Type 0 where
  itself : {r : ℕ} → (p : ℕ) → WasGiven t r p → Support t r r
  cited : {e r : ℕ} → (cites : List ℕ) → WasConcluded t e cites → (c : ℕ) → In c cites → Support t c r → Support t e r

-- r was withdrawn since e was accepted
abbrev pub WithdrawnSince : Trace → ℕ → ℕ → Type 0
WithdrawnSince [] e r = ⊥
WithdrawnSince (x ∷ before) e r = (Withdraws r x × Accepted before e) ⊎ WithdrawnSince before e r

-- e was accepted while r was held
abbrev pub AcceptedWhileHeld : Trace → ℕ → ℕ → Type 0
AcceptedWhileHeld [] e r = ⊥
AcceptedWhileHeld (x ∷ before) e r = (((cites : List ℕ) × Accepts e cites x) × IsHeld before r) ⊎ AcceptedWhileHeld before e r

-- The vocabulary that the calls describe: a number means what was asked for in the granted call that answered it.
-- the list with x at the number n, which is one of its own or the next
abbrev pub placed : {A : Type 0} → List A → ℕ → A → List A
placed [] n x = x ∷ []
placed (y ∷ ys) zero x = x ∷ ys
placed (y ∷ ys) (suc n) x = y ∷ placed ys n x

abbrev pub name_type : ℕ → Sort ℕ → Vocabulary → Vocabulary
name_type n s v = record { types = placed v.types n s; variables = v.variables; sets = v.sets; formulas = v.formulas }

abbrev pub name_variable : ℕ → ℕ → Vocabulary → Vocabulary
name_variable n t v = record { types = v.types; variables = placed v.variables n t; sets = v.sets; formulas = v.formulas }

abbrev pub name_set : ℕ → ℕ → Vocabulary → Vocabulary
name_set n t v = record { types = v.types; variables = v.variables; sets = placed v.sets n t; formulas = v.formulas }

abbrev pub name_formula : ℕ → Shape ℕ → Vocabulary → Vocabulary
name_formula n s v = record { types = v.types; variables = v.variables; sets = v.sets; formulas = placed v.formulas n s }

-- the formula with a kind, if it is one, and two operands
abbrev pub shape_if : Option Kind → ℕ → ℕ → Shape ℕ
shape_if (Some k) a b = shape k a b
shape_if None a b = falsity

abbrev pub names : Call → ℕ → Vocabulary → Vocabulary
names NewCarrier n v = name_type n carrier v
names (NewProduct s t) n v = name_type n (logic.product s t) v
names (NewVariable t) n v = name_variable n t v
names (NewSetName t) n v = name_set n t v
names (EnterFormula k a b) n v = name_formula n (shape_if (kind_numbered k) a b) v

abbrev pub describes : Event → Vocabulary → Vocabulary
describes (enters c (Ok n)) v = names c n v
describes (enters c (Err why)) v = v
describes (gives p answer) v = v
describes (concludes steps hypotheses cites answer) v = v
describes (holds e answer) v = v
describes (previews h answer) v = v
describes (lifts h answer) v = v
describes (withdraws h answer) v = v
describes (asks_entry e answer) v = v
describes (asks_predicate p answer) v = v

abbrev pub described : Trace → Vocabulary
described [] = empty_vocabulary
described (x ∷ before) = describes x (described before)

-- What the book says is what the two asks would answer.
-- there is an entry e, of this origin and with the predicate p
abbrev pub Says : Model → ℕ → Origin → ℕ → Type 0
Says b e o p = (s : State) × (ask_entry b e ≡ Ok (record { origin = o; predicate = p; state = s }))

-- it stands
pub record SaysOf (b : Model) (e : ℕ) (o : Origin) (p : ℕ) : Type 0 where
  pub state : State
  pub answer : ask_entry b e ≡ Ok (record { origin = o; predicate = p; state = state })
  pub stands_so : T (stands state)

-- the predicate p stands
abbrev pub SaysStands : Model → ℕ → Type 0
SaysStands b p = ((e : ℕ) × (o : Origin) × SaysOf b e o p) ⊎ ((e : ℕ) × (ask_predicate b p ≡ Ok (Some e)))

-- the two asks agree: a predicate's answer is the lowest entry that stands with it, or there is none
pub record AsksAgree (b : Model) (p : ℕ) : Type 0 where
  pub one : (e : ℕ) → ask_predicate b p ≡ Ok (Some e) → ((o : Origin) × SaysOf b e o p) × ((i : ℕ) (o : Origin) → SaysOf b i o p → e ≤ i)
  pub none : ask_predicate b p ≡ Ok None → (i : ℕ) (o : Origin) → SaysOf b i o p → ⊥

pub record Law (t : Trace) (b : Model) : Type 0 where
  -- every predicate that the book says stands is true in every finite interpretation in which all given rules not yet withdrawn are true
  pub sound : (p : ℕ) → SaysStands b p → (w : Structure) (f : ℕ → Value) → Interpretation (described t) w f →
      ((r q : ℕ) → WasGiven t r q → (IsWithdrawn t r → ⊥) → T (true_in (described t) w f q)) → T (true_in (described t) w f p)
  -- a conclusion stands exactly when it was accepted and no given rule in its support has been withdrawn since
  pub stands_when : (e : ℕ) → ((p : ℕ) × SaysOf b e Concluded p) ↔ (Accepted t e × ((r : ℕ) → Support t e r → WithdrawnSince t e r → ⊥))
  -- a given rule stands exactly until it is withdrawn
  pub given_stands : (e : ℕ) → ((p : ℕ) × SaysOf b e Given p) ↔ (((p : ℕ) × WasGiven t e p) × (IsWithdrawn t e → ⊥))
  -- no conclusion accepted while a rule was held has that rule in its support
  pub untainted : (e r : ℕ) → AcceptedWhileHeld t e r → Support t e r → ⊥
  -- an entry is what was given or accepted; its predicate is the number handed to give or the root's goal
  pub entries : (e p : ℕ) → (Says b e Given p ↔ WasGiven t e p) × (Says b e Concluded p ↔ Once (Reaches e p) t)
  pub asks_agree : (p : ℕ) → AsksAgree b p

-- every run of calls on a new book keeps the law, in a theory of this meaning
abbrev pub KeepsTheLaw : Meaning → Type 0
KeepsTheLaw m = (number : ℕ) (calls : Trace) (b : Model) → Run m number calls b → Law calls b
