-- The value of an expression is one of the values of its type.
use Rattle.std.proofs.Common.{◌≡◌, ℕ, ◌<◌, Bool, true, false, cond, T, eqb, List, [], ◌∷◌, ◌++◌, map, length, refl, ap, subst, ap₂, inl, inr, eqb→eq}
use Rattle.logic.specs.Formulas.{In, Shape, variable, pair, falsity, truth, negation, join, bind, equal, member, operands, through, Sort, carrier, product, parts, across, Vocabulary, node, sort, variable_type, HasType, TypeLayer, Falling, WellFormed}
use Rattle.logic.specs.Meanings.{Value, ordered_pair, Structure, values, values_layer, pairs, assign, meaning, meaning_layer, Interpretation, ValuesTyped}
use Rattle.logic.proofs.Falling.{asked, by_operands, descended}
use Rattle.logic.proofs.Coincidence.{meaning_is}

pub in_left : {A : Type 0} (a : A) (xs ys : List A) → In a xs → In a (xs ++ ys)
in_left a [] ys i = absurd i
in_left a (x ∷ xs) ys (inl e) = inl e
in_left a (x ∷ xs) ys (inr i) = inr (in_left a xs ys i)

pub in_right : {A : Type 0} (a : A) (xs ys : List A) → In a ys → In a (xs ++ ys)
in_right a [] ys i = i
in_right a (x ∷ xs) ys i = inr (in_right a xs ys i)

in_map : {A B : Type 0} (f : A → B) (a : A) (xs : List A) → In a xs → In (f a) (map f xs)
in_map f a [] i = absurd i
in_map f a (x ∷ xs) (inl e) = inl (ap f e)
in_map f a (x ∷ xs) (inr i) = inr (in_map f a xs i)

pub in_pairs : (a b : Value) (xs ys : List Value) → In a xs → In b ys → In (ordered_pair a b) (pairs xs ys)
in_pairs a b [] ys i j = absurd i
in_pairs a b (x ∷ xs) ys (inl e) j = in_left _ (map (ordered_pair x) ys) (pairs xs ys) (rw e (in_map (ordered_pair x) b ys j))
in_pairs a b (x ∷ xs) ys (inr i) j = in_right _ (map (ordered_pair x) ys) _ (in_pairs a b xs ys i j)

pub across_agree : {A : Type 0} (f g : ℕ → A) (s : Sort ℕ) → ((m : ℕ) → In m (parts s) → f m ≡ g m) → across f s ≡ across g s
across_agree f g carrier h = refl
across_agree f g (product a b) h = ap₂ product (h a (inl refl)) (h b (inr (inl refl)))

pub type_is : (v : Vocabulary) → Falling v → (n : ℕ) → HasType v n ≡ TypeLayer v (through (HasType v) (node v n))
unfolding HasType
type_is v falling n = asked v falling (λ _. ⊥) (λ _. TypeLayer v) n

module _ (v : Vocabulary) (wf : WellFormed v) (w : Structure) where
  pub values_is : (t : ℕ) → values v w t ≡ values_layer w t (across (values v w) (sort v t))
  unfolding values
  values_is t = descended [] (λ below r. values_layer w r (across below (sort v r)))
      (λ n f g h. ap (values_layer w n) (across_agree f g (sort v n) λ m i. h m (wf.types_fall n m i))) t

  module _ (f : ℕ → Value) (i : Interpretation v w f) where
    abbrev Within : ℕ → Type 0
    Within n = (t : ℕ) → HasType v n t → In (meaning v w n f) (values v w t)

    within_layer : (s : Shape ℕ) → ((m : ℕ) → In m (operands s) → Within m) → (t : ℕ) → TypeLayer v (through (HasType v) s) t →
        In (meaning_layer v w (through (meaning v w) s) f) (values v w t)
    within_layer (variable x) ih t (k, e) = rw e at (i.variables_typed x k)
    within_layer (pair a b) ih t (r, s, e, h, k) = rw (values_is t, e) (in_pairs _ _ _ _ (ih a (inl refl) r h) (ih b (inr (inl refl)) s k))
    within_layer falsity ih t h = absurd h
    within_layer truth ih t h = absurd h
    within_layer (negation a) ih t h = absurd h
    within_layer (join c a b) ih t h = absurd h
    within_layer (bind q x b) ih t h = absurd h
    within_layer (equal a b) ih t h = absurd h
    within_layer (member a s) ih t h = absurd h

    pub within : (n t : ℕ) → HasType v n t → In (meaning v w n f) (values v w t)
    within = by_operands v wf.formulas_fall Within λ n ih t h.
        rw (meaning_is v wf.formulas_fall w n) (within_layer (node v n) ih t (subst (λ r. r t) (type_is v wf.formulas_fall n) h))

  -- an interpretation stays one where a variable gets another value of its type
  pub assign_typed : (f : ℕ → Value) (x : ℕ) (u : Value) → Interpretation v w f → In u (values v w (variable_type v x)) → Interpretation v w (assign f x u)
  unfolding assign
  assign_typed f x u i j = record { variables_typed = λ y k. go y k (eqb y x) λ t. rw (eqb→eq y x t) j; sets_typed = i.sets_typed }
    where
      go : (y : ℕ) → y < length v.variables → (b : Bool) → (T b → In u (values v w (variable_type v y))) → In (cond b u (f y)) (values v w (variable_type v y))
      go y k true h = h tt
      go y k false h = i.variables_typed y k

pub values_typed : ValuesTyped
values_typed v wf n t h w f i = within v wf w f i n t h
