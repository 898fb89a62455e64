-- What a formula means in an interpretation, and which sequents are valid.
use Rattle.std.specs.Prelude.{◌≡◌, ℕ, zero, suc, ◌<◌, Bool, true, false, cond, not, ◌&&◌, ◌||◌, T, List, [], ◌∷◌, ◌++◌, map, length, ◌==◌}
use Rattle.std.proofs.Math.Bool.{decide, Bool-discrete}
use Rattle.std.proofs.Math.Decide.{ℕ_discrete}
use Rattle.logic.specs.Formulas.{In, Connective, and, or, implies, iff, Quantifier, forall, exists, Shape, variable, pair, falsity, truth, negation, join, bind, equal, member, Sort, carrier, product, across, Vocabulary, sort, variable_type, element_type, descend, ask, free, HasType, IsSubstitution, WellFormed}

-- the value of an expression is a thing or a pair, that of a predicate a truth value
pub data Value : Type 0 where
  thing : ℕ → Value
  ordered_pair : Value → Value → Value
  truth_value : Bool → Value
  deriving Discrete as Value-discrete

-- What a vocabulary speaks of: carrier t has the things 0 to size t, so none is empty; contains s is the set that s names.
pub record Structure : Type 0 where
  pub size : ℕ → ℕ
  pub contains : ℕ → Value → Bool

abbrev pub things : ℕ → List Value
things zero = thing 0 ∷ []
things (suc n) = thing (suc n) ∷ things n

-- every pair of a value of the first list and one of the second
abbrev pub pairs : List Value → List Value → List Value
pairs [] ys = []
pairs (x ∷ xs) ys = map (ordered_pair x) ys ++ pairs xs ys

abbrev pub values_layer : Structure → ℕ → Sort (List Value) → List Value
values_layer w t carrier = things (w.size t)
values_layer w t (product a b) = pairs a b

-- the values of type t
unfoldable pub values : Vocabulary → Structure → ℕ → List Value
values v w t = descend [] (λ below r. values_layer w r (across below (sort v r))) (suc t) t

-- a predicate's value, read as its truth
abbrev pub holds : Value → Bool
holds (thing n) = false
holds (ordered_pair a b) = false
holds (truth_value b) = b

abbrev pub same : Value → Value → Bool
same a b = decide (Value-discrete ℕ_discrete Bool-discrete a b)

abbrev pub connect : Connective → Bool → Bool → Bool
connect and a b = a && b
connect or a b = a || b
connect implies a b = not a || b
connect iff a b = (not a || b) && (not b || a)

abbrev pub every : (Value → Bool) → List Value → Bool
every p [] = true
every p (x ∷ xs) = p x && every p xs

abbrev pub some : (Value → Bool) → List Value → Bool
some p [] = false
some p (x ∷ xs) = p x || some p xs

abbrev pub quantify : Quantifier → (Value → Bool) → List Value → Bool
quantify forall = every
quantify exists = some

-- f with u for x
unfoldable pub assign : (ℕ → Value) → ℕ → Value → ℕ → Value
assign f x u y = cond (y == x) u (f y)

abbrev pub meaning_layer : Vocabulary → Structure → Shape ((ℕ → Value) → Value) → (ℕ → Value) → Value
meaning_layer v w (variable x) f = f x
meaning_layer v w (pair a b) f = ordered_pair (a f) (b f)
meaning_layer v w falsity f = truth_value false
meaning_layer v w truth f = truth_value true
meaning_layer v w (negation a) f = truth_value (not (holds (a f)))
meaning_layer v w (join c a b) f = truth_value (connect c (holds (a f)) (holds (b f)))
meaning_layer v w (bind q x b) f = truth_value (quantify q (λ u. holds (b (assign f x u))) (values v w (variable_type v x)))
meaning_layer v w (equal a b) f = truth_value (same (a f) (b f))
meaning_layer v w (member a s) f = truth_value (w.contains s (a f))

-- the value of formula n where the variables have the values f
unfoldable pub meaning : Vocabulary → Structure → ℕ → (ℕ → Value) → Value
meaning v w n = ask v (λ _. thing 0) (λ _. meaning_layer v w) n

-- w and f interpret v: each variable has a value of its type, and each set name a set of values of its element type
pub record Interpretation (v : Vocabulary) (w : Structure) (f : ℕ → Value) : Type 0 where
  pub variables_typed : (x : ℕ) → x < length v.variables → In (f x) (values v w (variable_type v x))
  pub sets_typed : (s : ℕ) → s < length v.sets → (u : Value) → T (w.contains s u) → In u (values v w (element_type v s))

-- formula n is true
abbrev pub true_in : Vocabulary → Structure → (ℕ → Value) → ℕ → Bool
true_in v w f n = holds (meaning v w n f)

pub record Sequent : Type 0 where
  pub hypotheses : List ℕ
  pub goal : ℕ

-- some number fails the test
abbrev pub refuted : (ℕ → Bool) → List ℕ → Bool
refuted p [] = false
refuted p (n ∷ ns) = not (p n) || refuted p ns

-- the goal is true or a hypothesis is not
abbrev pub Holds : Vocabulary → Structure → (ℕ → Value) → Sequent → Type 0
Holds v w f s = T (true_in v w f s.goal || refuted (true_in v w f) s.hypotheses)

-- the sequent holds in every interpretation
abbrev pub Valid : Vocabulary → Sequent → Type 0
Valid v s = (w : Structure) (f : ℕ → Value) → Interpretation v w f → Holds v w f s

-- the value of x makes no difference to n
abbrev pub Independent : Vocabulary → ℕ → ℕ → Type 0
Independent v x n = (w : Structure) (f : ℕ → Value) (u : Value) → meaning v w n (assign f x u) ≡ meaning v w n f

-- q means what p means with x at the value of e
abbrev pub MeansWith : Vocabulary → ℕ → ℕ → ℕ → ℕ → Type 0
MeansWith v q x e p = (w : Structure) (f : ℕ → Value) → meaning v w q f ≡ meaning v w p (assign f x (meaning v w e f))

-- the value of n is one of the values of type t
abbrev pub Valued : Vocabulary → ℕ → ℕ → Type 0
Valued v n t = (w : Structure) (f : ℕ → Value) → Interpretation v w f → In (meaning v w n f) (values v w t)

-- what a formula means depends on its free variables alone
abbrev pub Coincidence : Type 0
Coincidence = (v : Vocabulary) → WellFormed v → (w : Structure) (n : ℕ) (f g : ℕ → Value) →
    ((x : ℕ) → T (free v x n) → f x ≡ g x) → meaning v w n f ≡ meaning v w n g

-- so it does not depend on a variable that is not free in it
abbrev pub BoundIndependent : Type 0
BoundIndependent = (v : Vocabulary) → WellFormed v → (x n : ℕ) → free v x n ≡ false → Independent v x n

-- [x:=e]p means what p means with x at the value of e
abbrev pub Substitution : Type 0
Substitution = (v : Vocabulary) → WellFormed v → (q x e p : ℕ) → IsSubstitution v q x e p → MeansWith v q x e p

-- the value of an expression is one of its type's
abbrev pub ValuesTyped : Type 0
ValuesTyped = (v : Vocabulary) → WellFormed v → (n t : ℕ) → HasType v n t → Valued v n t
