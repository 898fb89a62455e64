-- A vocabulary; which variables are free in a formula; when one formula is another with an expression for a variable.
-- A formula is a number; its entry is a shape over the numbers of its operands. A question about a formula goes down the
-- operands: it is asked of the operands first, and a layer makes the answer from the shape that has their answers in the operands' places.
use Rattle.std.specs.Prelude.{◌≡◌, ℕ, zero, suc, ◌+◌, ◌<◌, ◌≤◌, max, Bool, true, false, not, ◌&&◌, ◌||◌, T, ◌⊎◌, List, [], ◌∷◌, length, get_or, ◌==◌}

-- a is one of the list
abbrev pub In : {A : Type 0} → A → List A → Type 0
In a [] = ⊥
In a (x ∷ xs) = (a ≡ x) ⊎ In a xs

pub data Connective : Type 0 where
  and or implies iff : Connective

pub data Quantifier : Type 0 where
  forall exists : Quantifier

-- the kinds of formula, with something of A in each operand's place
pub data Shape {ℓ} (A : Type ℓ) : Type ℓ where
  variable : ℕ → Shape A
  pair : A → A → Shape A
  falsity truth : Shape A
  negation : A → Shape A
  join : Connective → A → A → Shape A
  bind : Quantifier → ℕ → A → Shape A
  equal : A → A → Shape A
  member : A → ℕ → Shape A

abbrev pub operands : {A : Type 0} → Shape A → List A
operands (variable x) = []
operands (pair a b) = a ∷ b ∷ []
operands falsity = []
operands truth = []
operands (negation a) = a ∷ []
operands (join c a b) = a ∷ b ∷ []
operands (bind q x b) = b ∷ []
operands (equal a b) = a ∷ b ∷ []
operands (member a s) = a ∷ []

-- the shape with f of each operand in its place
abbrev pub through {ℓ κ} : {A : Type ℓ} {B : Type κ} → (A → B) → Shape A → Shape B
through f (variable x) = variable x
through f (pair a b) = pair (f a) (f b)
through f falsity = falsity
through f truth = truth
through f (negation a) = negation (f a)
through f (join c a b) = join c (f a) (f b)
through f (bind q x b) = bind q x (f b)
through f (equal a b) = equal (f a) (f b)
through f (member a s) = member (f a) s

-- a type is a carrier or a product
pub data Sort (A : Type 0) : Type 0 where
  carrier : Sort A
  product : A → A → Sort A

abbrev pub parts : {A : Type 0} → Sort A → List A
parts carrier = []
parts (product a b) = a ∷ b ∷ []

abbrev pub across : {A B : Type 0} → (A → B) → Sort A → Sort B
across f carrier = carrier
across f (product a b) = product (f a) (f b)

-- What has been entered, each sort of thing numbered from 0: types, the type of each variable, the element type of each set name,
-- and formulas. A number that no formula has reads as ⊥, and one that no type has as a carrier.
pub record Vocabulary : Type 0 where
  pub types : List (Sort ℕ)
  pub variables : List ℕ
  pub sets : List ℕ
  pub formulas : List (Shape ℕ)

-- formula n, type t
unfoldable pub node : Vocabulary → ℕ → Shape ℕ
node v n = get_or v.formulas n falsity

unfoldable pub sort : Vocabulary → ℕ → Sort ℕ
sort v t = get_or v.types t carrier

-- the type of a variable
unfoldable pub variable_type : Vocabulary → ℕ → ℕ
variable_type v x = get_or v.variables x 0

-- the element type of a set name
abbrev pub element_type : Vocabulary → ℕ → ℕ
element_type v s = get_or v.sets s 0

-- the answer at n, where a layer makes it from the answers below, at most k deep
unfoldable pub descend {ℓ} : {A : Type ℓ} → A → ((ℕ → A) → ℕ → A) → ℕ → ℕ → A
descend d layer zero n = d
descend d layer (suc k) n = layer (descend d layer k) n

-- a question about formulas: operands have smaller numbers, so suc n is deep enough
unfoldable pub ask {ℓ} : {A : Type ℓ} → Vocabulary → A → (ℕ → Shape A → A) → ℕ → A
ask v d layer n = descend d (λ below m. layer m (through below (node v m))) (suc n) n

abbrev pub free_layer : ℕ → Shape Bool → Bool
free_layer x (variable y) = x == y
free_layer x (pair a b) = a || b
free_layer x falsity = false
free_layer x truth = false
free_layer x (negation a) = a
free_layer x (join c a b) = a || b
free_layer x (bind q y b) = not (x == y) && b
free_layer x (equal a b) = a || b
free_layer x (member a s) = a

-- variable x is free in formula n
unfoldable pub free : Vocabulary → ℕ → ℕ → Bool
free v x n = ask v false (λ _. free_layer x) n

abbrev pub TypeLayer : Vocabulary → Shape (ℕ → Type 0) → ℕ → Type 0
TypeLayer v (variable x) t = (x < length v.variables) × (variable_type v x ≡ t)
TypeLayer v (pair a b) t = (r s : ℕ) × (sort v t ≡ product r s) × a r × b s
TypeLayer v falsity t = ⊥
TypeLayer v truth t = ⊥
TypeLayer v (negation a) t = ⊥
TypeLayer v (join c a b) t = ⊥
TypeLayer v (bind q x b) t = ⊥
TypeLayer v (equal a b) t = ⊥
TypeLayer v (member a s) t = ⊥

-- formula n is an expression of type t
unfoldable pub HasType : Vocabulary → ℕ → ℕ → Type 0
HasType v n t = ask v (λ _. ⊥) (λ _. TypeLayer v) n t

-- q is the formula with e for the variable in each operand, a set name being kept; no variable of e becomes bound
abbrev pub IsReplaced : Vocabulary → ℕ → Shape (ℕ → Type 0) → ℕ → Type 0
IsReplaced v e (variable y) q = q ≡ e
IsReplaced v e (pair a b) q = (c d : ℕ) × (node v q ≡ pair c d) × a c × b d
IsReplaced v e falsity q = ⊥
IsReplaced v e truth q = ⊥
IsReplaced v e (negation a) q = (c : ℕ) × (node v q ≡ negation c) × a c
IsReplaced v e (join k a b) q = (c d : ℕ) × (node v q ≡ join k c d) × a c × b d
IsReplaced v e (bind k y b) q = (c : ℕ) × (node v q ≡ bind k y c) × T (not (free v y e)) × b c
IsReplaced v e (equal a b) q = (c d : ℕ) × (node v q ≡ equal c d) × a c × b d
IsReplaced v e (member a s) q = (c : ℕ) × (node v q ≡ member c s) × a c

abbrev pub SubstitutedLayer : Vocabulary → ℕ → ℕ → ℕ → Shape (ℕ → Type 0) → ℕ → Type 0
SubstitutedLayer v x e p s q = (T (not (free v x p)) × (q ≡ p)) ⊎ (T (free v x p) × IsReplaced v e s q)

-- q is formula p with e for variable x, types aside
unfoldable pub Substituted : Vocabulary → ℕ → ℕ → ℕ → ℕ → Type 0
Substituted v x e p q = ask v (λ _. ⊥) (SubstitutedLayer v x e) p q

-- q is [x:=e]p: p is a known formula, x a known variable, and e an expression of its type
abbrev pub IsSubstitution : Vocabulary → ℕ → ℕ → ℕ → ℕ → Type 0
IsSubstitution v q x e p = (p < length v.formulas) × (x < length v.variables) × HasType v e (variable_type v x) × Substituted v x e p q

-- kinds 0 and 1 are expressions, the others predicates
abbrev pub predicate_shape : Shape ℕ → Bool
predicate_shape (variable x) = false
predicate_shape (pair a b) = false
predicate_shape falsity = true
predicate_shape truth = true
predicate_shape (negation a) = true
predicate_shape (join c a b) = true
predicate_shape (bind q x b) = true
predicate_shape (equal a b) = true
predicate_shape (member a s) = true

-- n is the number of a predicate
abbrev pub Predicate : Vocabulary → ℕ → Type 0
Predicate v n = (n < length v.formulas) × T (predicate_shape (node v n))

-- what a formula asks of its operands, apart from their smaller numbers
abbrev pub Formed : Vocabulary → Shape ℕ → Type 0
Formed v (variable x) = x < length v.variables
Formed v (pair a b) = (t r s : ℕ) × (sort v t ≡ product r s) × HasType v a r × HasType v b s
Formed v falsity = Unit {0}
Formed v truth = Unit {0}
Formed v (negation a) = Predicate v a
Formed v (join c a b) = Predicate v a × Predicate v b
Formed v (bind q x b) = (x < length v.variables) × Predicate v b
Formed v (equal a b) = (t : ℕ) × HasType v a t × HasType v b t
Formed v (member a s) = (s < length v.sets) × HasType v a (element_type v s)

-- every operand has a smaller number
abbrev pub Falling : Vocabulary → Type 0
Falling v = (n m : ℕ) → In m (operands (node v n)) → m < n

abbrev pub TypesFalling : Vocabulary → Type 0
TypesFalling v = (t r : ℕ) → In r (parts (sort v t)) → r < t

pub record WellFormed (v : Vocabulary) : Type 0 where
  pub types_fall : TypesFalling v
  pub formulas_fall : Falling v
  pub products_once : (t r a b : ℕ) → sort v t ≡ product a b → sort v r ≡ product a b → t ≡ r
  pub variables_typed : (x : ℕ) → x < length v.variables → variable_type v x < length v.types
  pub sets_typed : (s : ℕ) → s < length v.sets → element_type v s < length v.types
  pub formed : (n : ℕ) → n < length v.formulas → Formed v (node v n)
  pub records_once : (n m : ℕ) → n < length v.formulas → m < length v.formulas → node v n ≡ node v m → n ≡ m

-- 1 and the weights of the operands
abbrev pub weight_layer : Shape ℕ → ℕ
weight_layer s = suc (total (operands s))
  where
    total : List ℕ → ℕ
    total [] = 0
    total (n ∷ ns) = n + total ns

unfoldable pub weight : Vocabulary → ℕ → ℕ
weight v n = ask v 0 (λ _. weight_layer) n

-- 1 and the larger depth of the operands
abbrev pub depth_layer : Shape ℕ → ℕ
depth_layer s = suc (largest (operands s))
  where
    largest : List ℕ → ℕ
    largest [] = 0
    largest (n ∷ ns) = max n (largest ns)

unfoldable pub depth : Vocabulary → ℕ → ℕ
depth v n = ask v 0 (λ _. depth_layer) n

-- at most 64 types, 256 variables, 64 set names and 2,048 formulas, each of weight at most 4,095 and depth at most 64
pub record Limited (v : Vocabulary) : Type 0 where
  pub few_types : length v.types ≤ 64
  pub few_variables : length v.variables ≤ 256
  pub few_sets : length v.sets ≤ 64
  pub few_formulas : length v.formulas ≤ 2048
  pub light : (n : ℕ) → weight v n ≤ 4095
  pub shallow : (n : ℕ) → depth v n ≤ 64
