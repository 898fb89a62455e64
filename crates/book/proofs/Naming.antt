-- A granted call on the vocabulary names what was asked for: what is there already, or one thing more.
use Rattle.std.proofs.Common.{◌≡◌, ℕ, zero, suc, ◌<◌, ◌≤◌, Bool, true, false, cond, ◌&&◌, ltb, ◌⊎◌, List, [], ◌∷◌, ◌++◌, length, get_or, Some, None, Option, sym, refl, ap, ◌∙◌, subst, inl, inr, le_of_suc-le-suc, not-suc-le-zero, arith, length-append}
use Rattle.logic.specs.Formulas.{Shape, falsity, Sort, carrier, Vocabulary, node, sort, variable_type}
use Rattle.logic.specs.Formulas as logic
use Rattle.logic.specs.Growing.{with_type, with_variable, with_set, with_formula}
use Rattle.logic.specs.Deciding.{product_number}
use Rattle.formulas.specs.declared.calls.Call.{Call}
use Rattle.formulas.specs.declared.calls.Call.TheVariants.{NewCarrier, NewProduct, NewVariable, NewSetName, EnterFormula}
use Rattle.formulas.specs.declared.kinds.Kind.{Kind}
use Rattle.formulas.specs.declared.refusals.Refusal.{Refusal}
use Rattle.formulas.specs.declared.refusals.Refusal.TheVariants.{TypesFull, UnknownType, VariablesFull, SetNamesFull, UnknownKind, FormulasFull}
use Rattle.formulas.specs.Kinds.{kind_numbered}
use Rattle.formulas.specs.Records.{entry}
use Rattle.vocabulary.specs.Calls.{Outcome, refused, granted, knows_type, product_or, objection, formula_number, settle, enter_unless, enter_kind, called, Means}
use Rattle.book.specs.Law.{placed, shape_if, names}

-- the number that a new thing gets, and the vocabulary with it
abbrev pub next : Vocabulary → Call → ℕ
next v NewCarrier = length v.types
next v (NewProduct s t) = length v.types
next v (NewVariable t) = length v.variables
next v (NewSetName t) = length v.sets
next v (EnterFormula k a b) = length v.formulas

abbrev pub with_new : Vocabulary → Call → Vocabulary
with_new v NewCarrier = with_type v carrier
with_new v (NewProduct s t) = with_type v (logic.product s t)
with_new v (NewVariable t) = with_variable v t
with_new v (NewSetName t) = with_set v t
with_new v (EnterFormula k a b) = with_formula v (shape_if (kind_numbered k) a b)

-- refused, or granted with nothing new, or with one thing more
abbrev pub Settled : Vocabulary → Call → Outcome → Type 0
Settled v c o = ((e : Refusal) × (o ≡ refused e v)) ⊎ (((n : ℕ) × (o ≡ granted n v)) ⊎ (o ≡ granted (next v c) (with_new v c)))

module _ (v : Vocabulary) where
  module _ (c : Call) where
    either : (b : Bool) (x y : Outcome) → Settled v c x → Settled v c y → Settled v c (cond b x y)
    either true x y h k = h
    either false x y h k = k

    no : (e : Refusal) → Settled v c (refused e v)
    no e = inl (e, refl)

    -- one thing more, if there is room
    if_room : (b : Bool) (e : Refusal) → Settled v c (cond b (granted (next v c) (with_new v c)) (refused e v))
    if_room b e = either b _ _ (inr (inr refl)) (no e)

  a_product : (s t : ℕ) (o : Option ℕ) → Settled v (NewProduct s t) (product_or v s t o)
  a_product s t (Some n) = inr (inl (n, refl))
  a_product s t None = if_room (NewProduct s t) (ltb (length v.types) 64) TypesFull

  module _ (k a b : ℕ) (j : Kind) (is : kind_numbered k ≡ Some j) where
    a_record : (o : Option ℕ) → Settled v (EnterFormula k a b) (settle v (entry j a b) o)
    a_record (Some n) = inr (inl (n, refl))
    a_record None =
        subst (λ (o : Option Kind). Settled v (EnterFormula k a b)
        (cond (ltb (length v.formulas) 2048) (granted (length v.formulas) (with_formula v (shape_if o a b))) (refused FormulasFull v))) is
        (if_room (EnterFormula k a b) (ltb (length v.formulas) 2048) FormulasFull)

    allowed : (o : Option Refusal) → Settled v (EnterFormula k a b) (enter_unless v (entry j a b) o)
    allowed (Some e) = no (EnterFormula k a b) e
    allowed None = a_record (formula_number v (entry j a b))

  a_formula : (k a b : ℕ) (o : Option Kind) → kind_numbered k ≡ o → Settled v (EnterFormula k a b) (enter_kind v a b o)
  a_formula k a b None is = no (EnterFormula k a b) UnknownKind
  a_formula k a b (Some j) is = allowed k a b j is (objection v (entry j a b))

  pub settled : (c : Call) → Settled v c (called v c)
  settled NewCarrier = if_room NewCarrier (ltb (length v.types) 64) TypesFull
  settled (NewProduct s t) = either (NewProduct s t) (knows_type v s && knows_type v t) _ _ (a_product s t (product_number v s t)) (no (NewProduct s t) UnknownType)
  settled (NewVariable t) = either (NewVariable t) (knows_type v t) _ _ (if_room (NewVariable t) (ltb (length v.variables) 256) VariablesFull) (no (NewVariable t) UnknownType)
  settled (NewSetName t) = either (NewSetName t) (knows_type v t) _ _ (if_room (NewSetName t) (ltb (length v.sets) 64) SetNamesFull) (no (NewSetName t) UnknownType)
  settled (EnterFormula k a b) = a_formula k a b (kind_numbered k) refl

-- a list with x written at a number
placed_new : {A : Type 0} (xs : List A) (x : A) → placed xs (length xs) x ≡ xs ++ x ∷ []
placed_new [] x = refl
placed_new (y ∷ ys) x = ap (λ l. y ∷ l) (placed_new ys x)

placed_same : {A : Type 0} (xs : List A) (n : ℕ) (x d : A) → n < length xs → get_or xs n d ≡ x → placed xs n x ≡ xs
placed_same [] n x d l e = absurd (not-suc-le-zero l)
placed_same (y ∷ ys) zero x d l e = ap (λ z. z ∷ ys) (sym e)
placed_same (y ∷ ys) (suc n) x d l e = ap (λ zs. y ∷ zs) (placed_same ys n x d (le_of_suc-le-suc l) e)

module _ (v : Vocabulary) where
  abbrev types_are : List (Sort ℕ) → Vocabulary
  types_are l = record { types = l; variables = v.variables; sets = v.sets; formulas = v.formulas }

  abbrev variables_are : List ℕ → Vocabulary
  variables_are l = record { types = v.types; variables = l; sets = v.sets; formulas = v.formulas }

  abbrev sets_are : List ℕ → Vocabulary
  sets_are l = record { types = v.types; variables = v.variables; sets = l; formulas = v.formulas }

  abbrev formulas_are : List (Shape ℕ) → Vocabulary
  formulas_are l = record { types = v.types; variables = v.variables; sets = v.sets; formulas = l }

  pub names_new : (c : Call) → names c (next v c) v ≡ with_new v c
  names_new NewCarrier = ap types_are (placed_new v.types carrier)
  names_new (NewProduct s t) = ap types_are (placed_new v.types (logic.product s t))
  names_new (NewVariable t) = ap variables_are (placed_new v.variables t)
  names_new (NewSetName t) = ap sets_are (placed_new v.sets t)
  names_new (EnterFormula k a b) = ap formulas_are (placed_new v.formulas (shape_if (kind_numbered k) a b))

  pub names_same : (c : Call) (n : ℕ) → Means v c n → names c n v ≡ v
  unfolding sort variable_type node
  names_same NewCarrier n (l, e) = ap types_are (placed_same v.types n carrier carrier l e)
  names_same (NewProduct s t) n (l, e) = ap types_are (placed_same v.types n (logic.product s t) carrier l e)
  names_same (NewVariable t) n (l, e) = ap variables_are (placed_same v.variables n t 0 l e)
  names_same (NewSetName t) n (l, e) = ap sets_are (placed_same v.sets n t 0 l e)
  names_same (EnterFormula k a b) n (l, (j, is, e)) =
      ap formulas_are (placed_same v.formulas n (shape_if (kind_numbered k) a b) falsity l (e ∙ ap (λ (o : Option Kind). shape_if o a b) (sym is)))

  pub no_fewer : (c : Call) → length v.formulas ≤ length (with_new v c).formulas
  no_fewer NewCarrier = omega arith
  no_fewer (NewProduct s t) = omega arith
  no_fewer (NewVariable t) = omega arith
  no_fewer (NewSetName t) = omega arith
  no_fewer (EnterFormula k a b) = omega (arith, length-append v.formulas (shape_if (kind_numbered k) a b ∷ []))
