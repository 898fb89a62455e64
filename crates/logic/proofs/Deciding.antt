-- The reckoned type is the type; the tests of a shape say whether it is formed.
use Rattle.std.proofs.Common.{◌≡◌, ℕ, zero, suc, ◌<◌, ◌≤◌, Bool, true, false, cond, not, ◌&&◌, T, eqb, ltb, List, [], ◌∷◌, length, get_or, is_some, Some, None, Option, unwrap_or, sym, refl, ◌∙◌, subst, ap₂, inl, inr, ⊎_elim, arith, eqb→eq, ltb→lt, lt→ltb}
use lib.Dec.{eqb_refl}
use lib.ListN.{get_or-eq_default}
use Rattle.std.specs.Option.{option_map}
use Rattle.std.proofs.lemmas.Bool.{cases_lt}
use Rattle.logic.specs.Formulas.{In, Shape, variable, pair, falsity, truth, negation, join, bind, equal, member, operands, through, Sort, carrier, product, Vocabulary, node, sort, HasType, TypeLayer, Predicate, predicate_shape, Formed, Falling, WellFormed}
use Rattle.logic.specs.Deciding.{found, is_product, product_number, type_of, type_of_layer, is_predicate, is_expression, sorted, agreed, TypesDecided, FormedDecided}
use Rattle.logic.proofs.Falling.{asked, by_operands}
use Rattle.logic.proofs.Tests.{and_both, and_left, and_right}
use Rattle.logic.proofs.Typing.{type_is}
use Rattle.logic.proofs.Entering.{product_known}

-- what a search finds passes the test, and it finds something where something passes
pub found_means : {A : Type 0} (p : A → Bool) (d : A) (xs : List A) → T (is_some (found p xs)) → T (p (get_or xs (unwrap_or (found p xs) 0) d))
found_means p d [] t = absurd t
found_means p d (x ∷ xs) t = go (p x) (found p xs) (λ h. h) (found_means p d xs) t
  where
    go : (b : Bool) (o : Option ℕ) → (T b → T (p x)) → (T (is_some o) → T (p (get_or xs (unwrap_or o 0) d))) →
        T (is_some (cond b (Some 0) (option_map suc o))) → T (p (get_or (x ∷ xs) (unwrap_or (cond b (Some 0) (option_map suc o)) 0) d))
    go true o f g t = f tt
    go false None f g t = absurd t
    go false (Some n) f g t = g tt

pub found_some : {A : Type 0} (p : A → Bool) (d : A) (xs : List A) (k : ℕ) → k < length xs → T (p (get_or xs k d)) → T (is_some (found p xs))
found_some p d [] k h t = absurd (omega arith)
found_some p d (x ∷ xs) zero h t = go (p x) (option_map suc (found p xs)) t
  where
    go : (b : Bool) (o : Option ℕ) → T b → T (is_some (cond b (Some 0) o))
    go true o t = tt
    go false o t = absurd t
found_some p d (x ∷ xs) (suc k) h t = go (p x) (found p xs) (found_some p d xs k (omega arith) t)
  where
    go : (b : Bool) (o : Option ℕ) → T (is_some o) → T (is_some (cond b (Some 0) (option_map suc o)))
    go true o t = tt
    go false None t = absurd t
    go false (Some n) t = tt

is_product_means : (a b : ℕ) (s : Sort ℕ) → T (is_product a b s) → s ≡ product a b
is_product_means a b carrier t = absurd t
is_product_means a b (product c d) t = ap₂ product (eqb→eq c a (and_left _ (eqb d b) t)) (eqb→eq d b (and_right (eqb c a) _ t))

pub product_found : (v : Vocabulary) (a b : ℕ) → T (is_some (product_number v a b)) → sort v (unwrap_or (product_number v a b) 0) ≡ product a b
unfolding sort
product_found v a b t = is_product_means a b _ (found_means (is_product a b) carrier v.types t)

pub product_some : (v : Vocabulary) (t a b : ℕ) → sort v t ≡ product a b → T (is_some (product_number v a b))
unfolding sort
product_some v t a b e = found_some (is_product a b) carrier v.types t (product_known v t a b e)
    (subst (λ s. T (is_product a b s)) (sym e) (and_both (eqb a a) (eqb b b) (eqb_refl a) (eqb_refl b)))

pub type_of_is : (v : Vocabulary) → Falling v → (n : ℕ) → type_of v n ≡ type_of_layer v (through (type_of v) (node v n))
unfolding type_of
type_of_is v falling n = asked v falling 0 (λ _. type_of_layer v) n

pub node_past : (v : Vocabulary) (n : ℕ) → length v.formulas ≤ n → node v n ≡ falsity
unfolding node
node_past v n h = get_or-eq_default v.formulas falsity h

-- each formula passes its tests
abbrev pub Tested : Vocabulary → Type 0
Tested v = (n : ℕ) → n < length v.formulas → T (sorted v (node v n) && agreed v (node v n))

module _ (v : Vocabulary) where
  predicate_in : (n : ℕ) → Predicate v n → T (is_predicate v n)
  predicate_in n (h, t) = and_both (ltb n (length v.formulas)) (predicate_shape (node v n)) (lt→ltb n _ h) t

  predicate_out : (n : ℕ) → T (is_predicate v n) → Predicate v n
  predicate_out n t = (ltb→lt n _ (and_left (ltb n (length v.formulas)) (predicate_shape (node v n)) t), and_right (ltb n (length v.formulas)) (predicate_shape (node v n)) t)

  expressive_layer : (s : Shape ℕ) (t : ℕ) → TypeLayer v (through (HasType v) s) t → T (not (predicate_shape s))
  expressive_layer (variable x) t h = tt
  expressive_layer (pair a b) t h = tt
  expressive_layer falsity t h = h
  expressive_layer truth t h = h
  expressive_layer (negation a) t h = h
  expressive_layer (join c a b) t h = h
  expressive_layer (bind q x b) t h = h
  expressive_layer (equal a b) t h = h
  expressive_layer (member a s) t h = h

  -- only an expression has a type
  pub expressive : Falling v → (n t : ℕ) → HasType v n t → T (is_expression v n)
  expressive falling n t h =
      let shaped : T (not (predicate_shape (node v n))) = expressive_layer (node v n) t (subst (λ r. r t) (type_is v falling n) h) in
      and_both (ltb n (length v.formulas)) (not (predicate_shape (node v n))) (lt→ltb n _ (known shaped)) shaped
    where
      known : T (not (predicate_shape (node v n))) → n < length v.formulas
      known s = ⊎_elim (λ l. l) (λ l. absurd (subst (λ r. T (not (predicate_shape r))) (node_past v n l) s)) (cases_lt n (length v.formulas))

  module _ (falling : Falling v) (tested : Tested v) where
    typed_layer : (s : Shape ℕ) → ((m : ℕ) → In m (operands s) → T (is_expression v m) → HasType v m (type_of v m)) →
        T (not (predicate_shape s)) → T (sorted v s && agreed v s) → TypeLayer v (through (HasType v) s) (type_of_layer v (through (type_of v) s))
    typed_layer (variable x) ih t h = (ltb→lt x _ (and_left (ltb x (length v.variables)) true h), refl)
    typed_layer (pair a b) ih t h =
        let o = and_left (is_expression v a && is_expression v b) (is_some (product_number v (type_of v a) (type_of v b))) h in (
          type_of v a,
          type_of v b,
          product_found v (type_of v a) (type_of v b) (and_right (is_expression v a && is_expression v b) (is_some (product_number v (type_of v a) (type_of v b))) h),
          ih a (inl refl) (and_left (is_expression v a) (is_expression v b) o),
          ih b (inr (inl refl)) (and_right (is_expression v a) (is_expression v b) o),
        )
    typed_layer falsity ih t h = absurd t
    typed_layer truth ih t h = absurd t
    typed_layer (negation a) ih t h = absurd t
    typed_layer (join c a b) ih t h = absurd t
    typed_layer (bind q x b) ih t h = absurd t
    typed_layer (equal a b) ih t h = absurd t
    typed_layer (member a s) ih t h = absurd t

    -- an expression has its reckoned type
    pub typed : (n : ℕ) → T (is_expression v n) → HasType v n (type_of v n)
    typed = by_operands v falling (λ n. T (is_expression v n) → HasType v n (type_of v n)) λ n ih t.
        subst (λ r. r (type_of v n)) (sym (type_is v falling n))
        (rw (type_of_is v falling n) (typed_layer (node v n) ih (and_right (ltb n (length v.formulas)) (not (predicate_shape (node v n))) t)
        (tested n (ltb→lt n _ (and_left (ltb n (length v.formulas)) (not (predicate_shape (node v n))) t)))))

    pub formed_since : (s : Shape ℕ) → T (sorted v s && agreed v s) → Formed v s
    formed_since (variable x) h = ltb→lt x _ (and_left (ltb x (length v.variables)) true h)
    formed_since (pair a b) h =
        let o = and_left (is_expression v a && is_expression v b) (is_some (product_number v (type_of v a) (type_of v b))) h in (
          unwrap_or (product_number v (type_of v a) (type_of v b)) 0,
          type_of v a,
          type_of v b,
          product_found v (type_of v a) (type_of v b) (and_right (is_expression v a && is_expression v b) (is_some (product_number v (type_of v a) (type_of v b))) h),
          typed a (and_left (is_expression v a) (is_expression v b) o),
          typed b (and_right (is_expression v a) (is_expression v b) o),
        )
    formed_since falsity h = tt
    formed_since truth h = tt
    formed_since (negation a) h = predicate_out a (and_left (is_predicate v a) true h)
    formed_since (join c a b) h =
        let o = and_left (is_predicate v a && is_predicate v b) true h in
        (predicate_out a (and_left (is_predicate v a) (is_predicate v b) o), predicate_out b (and_right (is_predicate v a) (is_predicate v b) o))
    formed_since (bind q x b) h =
        let o = and_left (ltb x (length v.variables) && is_predicate v b) true h in
        (ltb→lt x _ (and_left (ltb x (length v.variables)) (is_predicate v b) o), predicate_out b (and_right (ltb x (length v.variables)) (is_predicate v b) o))
    formed_since (equal a b) h =
        let o = and_left (is_expression v a && is_expression v b) (eqb (type_of v a) (type_of v b)) h in
        let e : type_of v a ≡ type_of v b = eqb→eq _ _ (and_right (is_expression v a && is_expression v b) (eqb (type_of v a) (type_of v b)) h) in
        (type_of v b, subst (HasType v a) e (typed a (and_left (is_expression v a) (is_expression v b) o)), typed b (and_right (is_expression v a) (is_expression v b) o))
    formed_since (member a s) h =
        let o = and_left (is_expression v a && ltb s (length v.sets)) (eqb (type_of v a) (get_or v.sets s 0)) h in
        let e : type_of v a ≡ get_or v.sets s 0 = eqb→eq _ _ (and_right (is_expression v a && ltb s (length v.sets)) (eqb (type_of v a) (get_or v.sets s 0)) h) in
        (ltb→lt s _ (and_right (is_expression v a) (ltb s (length v.sets)) o), subst (HasType v a) e (typed a (and_left (is_expression v a) (ltb s (length v.sets)) o)))

module _ (v : Vocabulary) (wf : WellFormed v) where
  unique_layer : (s : Shape ℕ) → ((m : ℕ) → In m (operands s) → (t : ℕ) → HasType v m t → type_of v m ≡ t) → (t : ℕ) →
      TypeLayer v (through (HasType v) s) t → type_of_layer v (through (type_of v) s) ≡ t
  unique_layer (variable x) ih t (k, e) = e
  unique_layer (pair a b) ih t (r, s, e, h, k) =
      rw (ih a (inl refl) r h, ih b (inr (inl refl)) s k) (wf.products_once (unwrap_or (product_number v r s) 0) t r s (product_found v r s (product_some v t r s e)) e)
  unique_layer falsity ih t h = absurd h
  unique_layer truth ih t h = absurd h
  unique_layer (negation a) ih t h = absurd h
  unique_layer (join c a b) ih t h = absurd h
  unique_layer (bind q x b) ih t h = absurd h
  unique_layer (equal a b) ih t h = absurd h
  unique_layer (member a s) ih t h = absurd h

  -- a type is the reckoned one
  pub unique : (n t : ℕ) → HasType v n t → type_of v n ≡ t
  unique = by_operands v wf.formulas_fall (λ n. (t : ℕ) → HasType v n t → type_of v n ≡ t) λ n ih t h.
      type_of_is v wf.formulas_fall n ∙ unique_layer (node v n) ih t (subst (λ r. r t) (type_is v wf.formulas_fall n) h)

  pub tests_pass : (s : Shape ℕ) → Formed v s → T (sorted v s && agreed v s)
  tests_pass (variable x) h = and_both (ltb x (length v.variables)) true (lt→ltb x _ h) tt
  tests_pass (pair a b) (t, r, s, e, h, k) = and_both (is_expression v a && is_expression v b) (is_some (product_number v (type_of v a) (type_of v b)))
      (and_both (is_expression v a) (is_expression v b) (expressive v wf.formulas_fall a r h) (expressive v wf.formulas_fall b s k))
      (rw (unique a r h, unique b s k) (product_some v t r s e))
  tests_pass falsity h = tt
  tests_pass truth h = tt
  tests_pass (negation a) h = and_both (is_predicate v a) true (predicate_in v a h) tt
  tests_pass (join c a b) (h, k) = and_both (is_predicate v a && is_predicate v b) true (and_both (is_predicate v a) (is_predicate v b) (predicate_in v a h) (predicate_in v b k)) tt
  tests_pass (bind q x b) (h, k) = and_both (ltb x (length v.variables) && is_predicate v b) true
      (and_both (ltb x (length v.variables)) (is_predicate v b) (lt→ltb x _ h) (predicate_in v b k)) tt
  tests_pass (equal a b) (t, h, k) = and_both (is_expression v a && is_expression v b) (eqb (type_of v a) (type_of v b))
      (and_both (is_expression v a) (is_expression v b) (expressive v wf.formulas_fall a t h) (expressive v wf.formulas_fall b t k))
      (rw (unique a t h, unique b t k) (eqb_refl t))
  tests_pass (member a s) (h, k) = and_both (is_expression v a && ltb s (length v.sets)) (eqb (type_of v a) (get_or v.sets s 0))
      (and_both (is_expression v a) (ltb s (length v.sets)) (expressive v wf.formulas_fall a _ k) (lt→ltb s _ h))
      (rw (unique a _ k) (eqb_refl (get_or v.sets s 0)))

  pub tested : Tested v
  tested n h = tests_pass (node v n) (wf.formed n h)

pub types_decided : TypesDecided
types_decided v wf n t = (λ h. (expressive v wf.formulas_fall n t h, unique v wf n t h), λ (x, e). subst (HasType v n) e (typed v wf.formulas_fall (tested v wf) n x))

pub formed_decided : FormedDecided
formed_decided v wf s = (tests_pass v wf s, formed_since v wf.formulas_fall (tested v wf) s)
