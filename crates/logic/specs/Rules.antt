-- The 25 rules: what each asks of its sequent and its premises.
use Rattle.logic.specs.declared.rule.Rule.{Rule}
use Rattle.logic.specs.declared.rule.Rule.TheVariants.{Hyp, Mon, Cut, FalseL, FalseR, NotL, NotR, AndL, AndR, OrL, OrR, ImpL, ImpR, TrueR, EqvL, EqvR, AllL, AllR, XstL, XstR, Eql, EqLR, EqRL, PairL, PairR}
use Rattle.std.specs.Prelude.{◌≡◌, ℕ, ◌<◌, Bool, true, false, cond, not, ◌&&◌, ◌||◌, T, ◌⊎◌, ◌↔◌, List, [], ◌∷◌, ◌++◌, map, length, ◌==◌, ◌≢◌}
use Rattle.std.specs.List.{AllZip, AllByRecursion}
use Rattle.logic.specs.Formulas.{In, and, or, implies, iff, forall, exists, pair, falsity, truth, negation, join, bind, equal, Vocabulary, node, free, IsSubstitution, Predicate, WellFormed}
use Rattle.logic.specs.Meanings.{Sequent, Valid}

infix 10 ◌⊢◌
abbrev pub ◌⊢◌ : List ℕ → ℕ → Sequent
hypotheses ⊢ goal = record { hypotheses = hypotheses; goal = goal }

-- x is free in none of the formulas
abbrev pub Absent : Vocabulary → ℕ → List ℕ → Type 0
Absent v x = AllByRecursion (λ n. T (not (free v x n)))

-- n is the number of ⊥
abbrev pub Falsity : Vocabulary → ℕ → Type 0
Falsity v n = (n < length v.formulas) × (node v n ≡ falsity)

-- A line of the table: the variables that must not be free in H, the premises and the sequent, these without the hypotheses H that all share.
-- MON adds a set F to H.
pub data Form (v : Vocabulary) (a b c : ℕ) : Rule → List ℕ → List Sequent → Sequent → Type 0 where
  hyp : {p : ℕ} → Form v a b c Hyp [] [] (p ∷ [] ⊢ p)
  mon : {F : List ℕ} {q : ℕ} → Form v a b c Mon [] (([] ⊢ q) ∷ []) (F ⊢ q)
  cut : {p q : ℕ} → Form v a b c Cut [] (([] ⊢ p) ∷ (p ∷ [] ⊢ q) ∷ []) ([] ⊢ q)
  false_l : {n p : ℕ} → Falsity v n → Form v a b c FalseL [] [] (n ∷ [] ⊢ p)
  false_r : {n m p : ℕ} → node v n ≡ negation p → Falsity v m → Form v a b c FalseR [] (([] ⊢ p) ∷ ([] ⊢ n) ∷ []) ([] ⊢ m)
  not_l : {n p q : ℕ} → node v a ≡ negation p → node v n ≡ negation q → Form v a b c NotL [] ((n ∷ [] ⊢ p) ∷ []) (a ∷ [] ⊢ q)
  not_r : {n m p : ℕ} → node v n ≡ negation p → Falsity v m → Form v a b c NotR [] ((p ∷ [] ⊢ m) ∷ []) ([] ⊢ n)
  and_l : {p q r : ℕ} → node v a ≡ join and p q → Form v a b c AndL [] ((p ∷ q ∷ [] ⊢ r) ∷ []) (a ∷ [] ⊢ r)
  and_r : {n p q : ℕ} → node v n ≡ join and p q → Form v a b c AndR [] (([] ⊢ p) ∷ ([] ⊢ q) ∷ []) ([] ⊢ n)
  or_l : {p q r : ℕ} → node v a ≡ join or p q → Form v a b c OrL [] ((p ∷ [] ⊢ r) ∷ (q ∷ [] ⊢ r) ∷ []) (a ∷ [] ⊢ r)
  or_r : {n m p q : ℕ} → node v n ≡ join or p q → node v m ≡ negation p → Form v a b c OrR [] ((m ∷ [] ⊢ q) ∷ []) ([] ⊢ n)
  imp_l : {p q r : ℕ} → node v a ≡ join implies p q → Form v a b c ImpL [] ((p ∷ q ∷ [] ⊢ r) ∷ []) (p ∷ a ∷ [] ⊢ r)
  imp_r : {n p q : ℕ} → node v n ≡ join implies p q → Form v a b c ImpR [] ((p ∷ [] ⊢ q) ∷ []) ([] ⊢ n)
  true_r : {n : ℕ} → node v n ≡ truth → Form v a b c TrueR [] [] ([] ⊢ n)
  eqv_l : {n m p q r : ℕ} → node v a ≡ join iff p q → node v n ≡ join implies p q → node v m ≡ join implies q p →
      Form v a b c EqvL [] ((n ∷ m ∷ [] ⊢ r) ∷ []) (a ∷ [] ⊢ r)
  eqv_r : {g n m p q : ℕ} → node v g ≡ join iff p q → node v n ≡ join implies p q → node v m ≡ join implies q p →
      Form v a b c EqvR [] (([] ⊢ n) ∷ ([] ⊢ m) ∷ []) ([] ⊢ g)
  all_l : {p q x : ℕ} → node v a ≡ bind forall x p → IsSubstitution v c x b p → Form v a b c AllL [] ((a ∷ c ∷ [] ⊢ q) ∷ []) (a ∷ [] ⊢ q)
  all_r : {n p x : ℕ} → node v n ≡ bind forall x p → Form v a b c AllR (x ∷ []) (([] ⊢ p) ∷ []) ([] ⊢ n)
  xst_l : {p q x : ℕ} → node v a ≡ bind exists x p → T (not (free v x q)) → Form v a b c XstL (x ∷ []) ((p ∷ [] ⊢ q) ∷ []) (a ∷ [] ⊢ q)
  xst_r : {n m p x : ℕ} → node v n ≡ bind exists x p → IsSubstitution v m x b p → Form v a b c XstR [] (([] ⊢ m) ∷ []) ([] ⊢ n)
  eql : {n e : ℕ} → node v n ≡ equal e e → Form v a b c Eql [] [] ([] ⊢ n)
  eq_lr : {p q e f : ℕ} → Predicate v c → node v a ≡ equal e f → IsSubstitution v p b f c → IsSubstitution v q b e c → Form v a b c EqLR [] ((a ∷ [] ⊢ p) ∷ []) (a ∷ [] ⊢ q)
  eq_rl : {p q e f : ℕ} → Predicate v c → node v a ≡ equal e f → IsSubstitution v p b e c → IsSubstitution v q b f c → Form v a b c EqRL [] ((a ∷ [] ⊢ p) ∷ []) (a ∷ [] ⊢ q)
  pair_l : {i j n m e f g k r : ℕ} → node v a ≡ equal n m → node v n ≡ pair e f → node v m ≡ pair g k →
      node v i ≡ equal e g → node v j ≡ equal f k → Form v a b c PairL [] ((i ∷ j ∷ [] ⊢ r) ∷ []) (a ∷ [] ⊢ r)
  pair_r : {i j n m e f g k o : ℕ} → node v o ≡ equal n m → node v n ≡ pair e f → node v m ≡ pair g k →
      node v i ≡ equal e g → node v j ≡ equal f k → Form v a b c PairR [] (([] ⊢ i) ∷ ([] ⊢ j) ∷ []) ([] ⊢ o)

-- the sequent s is the part with H joined to its hypotheses
abbrev pub Made : List ℕ → Sequent → Sequent → Type 0
Made H part s = (s.goal ≡ part.goal) × ((n : ℕ) → In n s.hypotheses ↔ (In n H ⊎ In n part.hypotheses))

-- some single H fits the sequent and all its premises together
abbrev pub Instance : Vocabulary → Rule → ℕ → ℕ → ℕ → List Sequent → Sequent → Type 0
Instance v rule a b c premises s =
    (H : List ℕ) × (fresh : List ℕ) × (above : List Sequent) × (below : Sequent) ×
    Form v a b c rule fresh above below × AllByRecursion (λ x. Absent v x H) fresh × AllZip (Made H) (below ∷ above) (s ∷ premises)

-- if all premises of an instance are valid, so is its sequent
abbrev pub Sound : Type 0
Sound = (v : Vocabulary) → WellFormed v → (rule : Rule) (a b c : ℕ) (premises : List Sequent) (s : Sequent) →
    Instance v rule a b c premises s → AllByRecursion (Valid v) premises → Valid v s

-- every number of ns is one of ms
abbrev pub Subset : List ℕ → List ℕ → Type 0
Subset ns ms = (n : ℕ) → In n ns → In n ms

-- How an H is found: by comparing sets.
abbrev pub mem : ℕ → List ℕ → Bool
mem n [] = false
mem n (m ∷ ms) = n == m || mem n ms

-- every number of ns is among ms
abbrev pub subset : List ℕ → List ℕ → Bool
subset [] ms = true
subset (n ∷ ns) ms = mem n ms && subset ns ms

-- the numbers of ns that are not among ms
abbrev pub minus : List ℕ → List ℕ → List ℕ
minus [] ms = []
minus (n ∷ ns) ms = cond (mem n ms) (minus ns ms) (n ∷ minus ns ms)

-- what the sequents have beyond their parts
abbrev pub least : List Sequent → List Sequent → List ℕ
least [] ss = []
least (p ∷ ps) [] = []
least (p ∷ ps) (s ∷ ss) = minus s.hypotheses p.hypotheses ++ least ps ss

-- each sequent has its part, and what any sequent has beyond its own part
abbrev pub fits : List ℕ → List Sequent → List Sequent → Bool
fits L [] [] = true
fits L [] (s ∷ ss) = false
fits L (p ∷ ps) [] = false
fits L (p ∷ ps) (s ∷ ss) = (s.goal == p.goal && (subset p.hypotheses s.hypotheses && subset L s.hypotheses)) && fits L ps ss

-- an instance is one with the least H, and there is a least H where the sets compare
abbrev pub InstanceBySets : Type 0
InstanceBySets = (v : Vocabulary) (rule : Rule) (a b c : ℕ) (premises : List Sequent) (s : Sequent) →
    Instance v rule a b c premises s ↔ ((fresh : List ℕ) × (above : List Sequent) × (below : Sequent) × Form v a b c rule fresh above below ×
    AllByRecursion (λ x. Absent v x (least (below ∷ above) (s ∷ premises))) fresh ×
    T (fits (least (below ∷ above) (s ∷ premises)) (below ∷ above) (s ∷ premises)))

-- MON as the table has it: G ⊢ Q, G a subset of H, gives H ⊢ Q
abbrev pub MonBySubset : Type 0
MonBySubset = (v : Vocabulary) (a b c : ℕ) (p s : Sequent) → Instance v Mon a b c (p ∷ []) s ↔ ((s.goal ≡ p.goal) × Subset p.hypotheses s.hypotheses)

-- ⊥ is not valid without hypotheses
abbrev pub Consistent : Type 0
Consistent = (v : Vocabulary) → WellFormed v → (n : ℕ) → Falsity v n → Valid v ([] ⊢ n) → ⊥

abbrev pub goals : List Sequent → List ℕ
goals = map (λ s. s.goal)

-- the arguments and the goals of a step determine its line of the table, but for the set that MON adds and which ⊥ is meant
abbrev pub LinesUnique : Type 0
LinesUnique = (v : Vocabulary) → WellFormed v → (a b c : ℕ) (r : Rule) (fresh fresh' : List ℕ) (above above' : List Sequent) (below below' : Sequent) →
    Form v a b c r fresh above below → Form v a b c r fresh' above' below' → goals (below ∷ above) ≡ goals (below' ∷ above') →
    (fresh ≡ fresh') × (above ≡ above') × ((r ≡ Mon) ⊎ ((r ≡ FalseL) ⊎ (below ≡ below')))

-- so a step whose line is known is judged by that line alone: the fresh variables and the sets
abbrev pub JudgedByLine : Type 0
JudgedByLine = (v : Vocabulary) → WellFormed v → (a b c : ℕ) (r : Rule) (fresh : List ℕ) (above : List Sequent) (below : Sequent) (premises : List Sequent) (s : Sequent) →
    (r ≢ Mon) → (r ≢ FalseL) → Form v a b c r fresh above below → goals (below ∷ above) ≡ goals (s ∷ premises) →
    Instance v r a b c premises s ↔ (AllByRecursion (λ x. Absent v x (least (below ∷ above) (s ∷ premises))) fresh ×
    T (fits (least (below ∷ above) (s ∷ premises)) (below ∷ above) (s ∷ premises)))

-- FALSE_L is an instance where some hypothesis is ⊥
abbrev pub FalseByMember : Type 0
FalseByMember = (v : Vocabulary) (a b c : ℕ) (s : Sequent) → Instance v FalseL a b c [] s ↔ ((n : ℕ) × In n s.hypotheses × Falsity v n)
