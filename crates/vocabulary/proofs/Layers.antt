-- One layer over a record, as the code reckons it, is the logic's layer over the shape.
use Rattle.std.proofs.Common.{◌≡◌, ℕ, ◌+◌, max, refl, arith}
use Rattle.logic.specs.Formulas.{through, Vocabulary, weight_layer, depth_layer}
use Rattle.logic.specs.Deciding.{type_of_layer, type_of, agreed}
use Rattle.formulas.specs.declared.kinds.Kind.{Kind}
use Rattle.formulas.specs.declared.kinds.Kind.TheVariants.{Variable, Pair, False, True, Not, And, Or, Implies, Iff, ForAll, Exists, Equal, Member}
use Rattle.formulas.specs.declared.records.Record.{Record}
use Rattle.formulas.specs.Kinds.{first_role, second_role}
use Rattle.formulas.specs.Records.{shape, entry}
use Rattle.vocabulary.specs.Leaves.{part, type_from, agree_from}

-- the layers, from what the operands contribute
abbrev pub firstly : {A : Type 0} → A → (ℕ → A) → Record → A
firstly d f r = part d f (first_role r.kind) r.a

abbrev pub secondly : {A : Type 0} → A → (ℕ → A) → Record → A
secondly d f r = part d f (second_role r.kind) r.b

pub weight_parts : (f : ℕ → ℕ) (k : Kind) (a b : ℕ) → 1 + (firstly 0 f (entry k a b) + secondly 0 f (entry k a b)) ≡ weight_layer (through f (shape k a b))
weight_parts f Variable a b = refl
weight_parts f Pair a b = omega arith
weight_parts f False a b = refl
weight_parts f True a b = refl
weight_parts f Not a b = omega arith
weight_parts f And a b = omega arith
weight_parts f Or a b = omega arith
weight_parts f Implies a b = omega arith
weight_parts f Iff a b = omega arith
weight_parts f ForAll a b = omega arith
weight_parts f Exists a b = omega arith
weight_parts f Equal a b = omega arith
weight_parts f Member a b = omega arith

pub depth_parts : (f : ℕ → ℕ) (k : Kind) (a b : ℕ) → 1 + max (firstly 0 f (entry k a b)) (secondly 0 f (entry k a b)) ≡ depth_layer (through f (shape k a b))
depth_parts f Variable a b = omega arith
depth_parts f Pair a b = omega arith
depth_parts f False a b = omega arith
depth_parts f True a b = omega arith
depth_parts f Not a b = omega arith
depth_parts f And a b = omega arith
depth_parts f Or a b = omega arith
depth_parts f Implies a b = omega arith
depth_parts f Iff a b = omega arith
depth_parts f ForAll a b = omega arith
depth_parts f Exists a b = omega arith
depth_parts f Equal a b = omega arith
depth_parts f Member a b = omega arith

pub type_parts : (v : Vocabulary) (f : ℕ → ℕ) (k : Kind) (a b : ℕ) →
    type_from v (entry k a b) (firstly 0 f (entry k a b)) (secondly 0 f (entry k a b)) ≡ type_of_layer v (through f (shape k a b))
type_parts v f Variable a b = refl
type_parts v f Pair a b = refl
type_parts v f False a b = refl
type_parts v f True a b = refl
type_parts v f Not a b = refl
type_parts v f And a b = refl
type_parts v f Or a b = refl
type_parts v f Implies a b = refl
type_parts v f Iff a b = refl
type_parts v f ForAll a b = refl
type_parts v f Exists a b = refl
type_parts v f Equal a b = refl
type_parts v f Member a b = refl

pub agree_parts : (v : Vocabulary) (k : Kind) (a b : ℕ) →
    agree_from v (entry k a b) (firstly 0 (type_of v) (entry k a b)) (secondly 0 (type_of v) (entry k a b)) ≡ agreed v (shape k a b)
agree_parts v Variable a b = refl
agree_parts v Pair a b = refl
agree_parts v False a b = refl
agree_parts v True a b = refl
agree_parts v Not a b = refl
agree_parts v And a b = refl
agree_parts v Or a b = refl
agree_parts v Implies a b = refl
agree_parts v Iff a b = refl
agree_parts v ForAll a b = refl
agree_parts v Exists a b = refl
agree_parts v Equal a b = refl
agree_parts v Member a b = refl
