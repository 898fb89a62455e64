-- Derivations: when a step is right, which fault is the first, and when a derivation is right.
use Rattle.std.specs.Prelude.{◌≡◌, ℕ, zero, suc, ◌+◌, ◌-◌, ◌<◌, ◌≤◌, true, ◌⊎◌, List, [], ◌∷◌, length, take, drop, slice_index_or}
use Rattle.logic.specs.Formulas.{Vocabulary, Predicate}
use Rattle.std.specs.List.{AllByRecursion}
use Rattle.logic.specs.Meanings.{Sequent as Seq}
use Rattle.calculus.specs.declared.step.Step.{Step}
use Rattle.calculus.specs.declared.refusal.Fault.{Fault}
use Rattle.calculus.specs.declared.refusal.Fault.TheVariants.{Size, Range, NotASequent, UnknownRule, LatePremise, NoInstance}
use Rattle.calculus.specs.declared.refusal.Refusal.{Refusal}
use Rattle.calculus.specs.Refusals.{number}
use Rattle.calculus.specs.Rising.{Rising}
use Rattle.calculus.specs.Theories.{Meaning}

abbrev pub nil : Step
nil = record { rule = 0; goal = 0; start = 0; count = 0; first = 0; second = 0; a = 0; b = 0; c = 0 }

-- the step at a place
abbrev pub at : List Step → ℕ → Step
at xs i = slice_index_or xs i nil

-- the hypotheses of a step are the part of the list from its start, as many as its count
abbrev pub part : List ℕ → Step → List ℕ
part hs x = take x.count (drop x.start hs)

abbrev pub sequent : List ℕ → Step → Seq
sequent hs x = record { goal = x.goal; hypotheses = part hs x }

-- 1 to 256 steps and at most 4,096 hypothesis numbers
abbrev pub Sized : List Step → List ℕ → Type 0
Sized xs hs = (0 < length xs) × (length xs ≤ 256) × (length hs ≤ 4096)

-- the part lies in the list and has at most 16 numbers
abbrev pub InRange : List ℕ → Step → Type 0
InRange hs x = (x.start + x.count ≤ length hs) × (x.count ≤ 16)

-- the hypotheses rise and are predicates, and so is the goal
abbrev pub Shaped : Vocabulary → List ℕ → Step → Type 0
Shaped v hs x = Rising (part hs x) × AllByRecursion (Predicate v) (part hs x) × Predicate v x.goal

-- the premises that a rule takes, n of them, are earlier than the place i
abbrev pub Earlier : ℕ → ℕ → Step → Type 0
Earlier n i x = (0 < n → x.first < i) × (1 < n → x.second < i)

-- the sequents of the first n premises
abbrev pub premises : ℕ → List Step → List ℕ → Step → List Seq
premises zero xs hs x = []
premises (suc zero) xs hs x = sequent hs (at xs x.first) ∷ []
premises (suc (suc n)) xs hs x = sequent hs (at xs x.first) ∷ sequent hs (at xs x.second) ∷ []

-- the step is an instance of its rule
abbrev pub Judged : Meaning → Vocabulary → List Step → List ℕ → Step → Type 0
Judged m v xs hs x = m.instance v x (sequent hs x) (premises (m.arity x.rule) xs hs x)

-- what the check of a number asks of the step x at the place i; the sizes are no matter of a step
abbrev pub Passes : Fault → Meaning → Vocabulary → List Step → List ℕ → ℕ → Step → Type 0
Passes Size m v xs hs i x = Unit {0}
Passes Range m v xs hs i x = InRange hs x
Passes NotASequent m v xs hs i x = Shaped v hs x
Passes UnknownRule m v xs hs i x = m.known x.rule ≡ true
Passes LatePremise m v xs hs i x = Earlier (m.arity x.rule) i x
Passes NoInstance m v xs hs i x = Judged m v xs hs x

-- the step x at the place i is right: it passes every check
abbrev pub Right : Meaning → Vocabulary → List Step → List ℕ → ℕ → Step → Type 0
Right m v xs hs i x = (f : Fault) → Passes f m v xs hs i x

-- f is the first fault of the step: it passes every check of a smaller number and fails this one
abbrev pub Fails : Fault → Meaning → Vocabulary → List Step → List ℕ → ℕ → Step → Type 0
Fails f m v xs hs i x = ((g : Fault) → number g < number f → Passes g m v xs hs i x) × (Passes f m v xs hs i x → ⊥)

abbrev pub RightBelow : Meaning → Vocabulary → List Step → List ℕ → ℕ → Type 0
RightBelow m v xs hs n = (i : ℕ) → i < n → Right m v xs hs i (at xs i)

-- a derivation is right: its sizes are allowed, and each step is right
abbrev pub RightDerivation : Meaning → Vocabulary → List Step → List ℕ → Type 0
RightDerivation m v xs hs = Sized xs hs × RightBelow m v xs hs (length xs)

-- the last step is the root
abbrev pub root : List Step → List ℕ → Seq
root xs hs = sequent hs (at xs (length xs - 1))

-- e is the first fault of a derivation: its sizes, or else the first fault of its first step that is not right
abbrev pub FirstFault : Refusal → Meaning → Vocabulary → List Step → List ℕ → Type 0
FirstFault e m v xs hs =
    ((e ≡ record { fault = Size; step = 0 }) × (Sized xs hs → ⊥)) ⊎
    (Sized xs hs × (e.step < length xs) × RightBelow m v xs hs e.step × Fails e.fault m v xs hs e.step (at xs e.step))

-- f says why a step has no sequent
abbrev pub Unshaped : Fault → Vocabulary → List ℕ → Step → Type 0
Unshaped f v hs x = ((f ≡ Range) × (InRange hs x → ⊥)) ⊎ ((f ≡ NotASequent) × InRange hs x × (Shaped v hs x → ⊥))
