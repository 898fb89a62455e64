-- A vocabulary stays well formed if what is entered is.
use Rattle.std.proofs.Common.{◌≡◌, ℕ, zero, suc, ◌<◌, ◌≤◌, ◌⊎◌, List, [], ◌∷◌, ◌++◌, length, get_or, sym, refl, ap, ◌∙◌, subst, inl, inr, ⊎_elim, append-nil, arith, length-append}
use lib.ListN.{get_or-append, get_or-eq_default}
use lib.Seq.{get_or-append_seam}
use Rattle.std.proofs.lemmas.Bool.{cases_lt}
use Rattle.logic.specs.Formulas.{In, Shape, variable, pair, falsity, truth, negation, join, bind, equal, member, operands, through, Sort, carrier, product, parts, Vocabulary, node, sort, variable_type, HasType, TypeLayer, Predicate, Formed, Falling, TypesFalling, WellFormed}
use Rattle.logic.specs.Growing.{Grows, New, StaysWellFormed, with_formula, EntersWell, with_type, with_variable, with_set, empty_vocabulary, OthersEnterWell}
use Rattle.logic.proofs.Falling.{by_operands}
use Rattle.logic.proofs.Typing.{type_is}
use Rattle.logic.proofs.Growth.{sort_stays, variable_type_stays, node_stays, grown_at}

pub longer : {A : Type 0} (xs ys more : List A) (n : ℕ) → ys ≡ xs ++ more → n < length xs → n < length ys
longer xs ys more n e h = rw (e, length-append xs more) (omega arith)

-- only a product is known to have parts
pub product_known : (v : Vocabulary) (t a b : ℕ) → sort v t ≡ product a b → t < length v.types
unfolding sort
product_known v t a b e = ⊎_elim (λ h. h) (λ h. let d = get_or-eq_default v.types carrier h in let z : ◌≡◌ {A = ℕ} 0 1 = cc in absurd (omega arith)) (cases_lt t (length v.types))

-- what has a type keeps it
module _ (v v' : Vocabulary) (wf : WellFormed v) (grows : Grows v v') (falling' : Falling v') where
  pub product_stays : (t a b : ℕ) → sort v t ≡ product a b → sort v' t ≡ product a b
  product_stays t a b e = sort_stays v v' grows t (product_known v t a b e) ∙ e

  abbrev pub Typed : ℕ → Type 0
  Typed n = n < length v.formulas → (t : ℕ) → HasType v n t → HasType v' n t

  typed_layer : (s : Shape ℕ) → ((m : ℕ) → In m (operands s) → (t : ℕ) → HasType v m t → HasType v' m t) → (t : ℕ) →
      TypeLayer v (through (HasType v) s) t → TypeLayer v' (through (HasType v') s) t
  typed_layer (variable x) ih t (k, e) = (longer _ _ grows.variables_grow.0 x grows.variables_grow.1 k, variable_type_stays v v' grows x k ∙ e)
  typed_layer (pair a b) ih t (r, s, e, h, k) = (r, s, product_stays t r s e, ih a (inl refl) r h, ih b (inr (inl refl)) s k)
  typed_layer falsity ih t h = h
  typed_layer truth ih t h = h
  typed_layer (negation a) ih t h = h
  typed_layer (join c a b) ih t h = h
  typed_layer (bind q x b) ih t h = h
  typed_layer (equal a b) ih t h = h
  typed_layer (member a s) ih t h = h

  pub typed_stays : (n : ℕ) → Typed n
  typed_stays = by_operands v wf.formulas_fall Typed λ n ih h t k.
      subst (λ r. r t) (sym (type_is v' falling' n)) (rw (node_stays v v' grows n h) (typed_layer (node v n)
      (λ m i. let l : m < n = wf.formulas_fall n m i in ih m i (omega arith)) t (subst (λ r. r t) (type_is v wf.formulas_fall n) k)))

module _ (v v' : Vocabulary) (wf : WellFormed v) (grows : Grows v v') (new : New v v') where
  types_fall : TypesFalling v'
  types_fall t r i = ⊎_elim (λ h. wf.types_fall t r (rw (sort_stays v v' grows t h) at i)) (λ h. let l : r < length v.types = new.types_known t r h i in omega arith) (cases_lt t (length v.types))

  formulas_fall : Falling v'
  formulas_fall n m i = ⊎_elim (λ h. wf.formulas_fall n m (rw (node_stays v v' grows n h) at i)) (λ h. let l : m < length v.formulas = new.operands_known n m h i in omega arith) (cases_lt n (length v.formulas))

  predicate_stays : (n : ℕ) → Predicate v n → Predicate v' n
  predicate_stays n (h, t) = (longer _ _ grows.formulas_grow.0 n grows.formulas_grow.1 h, rw (node_stays v v' grows n h) t)

  formed_stays : (s : Shape ℕ) → ((m : ℕ) → In m (operands s) → m < length v.formulas) → Formed v s → Formed v' s
  formed_stays (variable x) known h = longer _ _ grows.variables_grow.0 x grows.variables_grow.1 h
  formed_stays (pair a b) known (t, r, s, e, h, k) = (t, r, s, product_stays v v' wf grows formulas_fall t r s e, typed_stays v v' wf grows formulas_fall a (known a (inl refl)) r h, typed_stays v v' wf grows formulas_fall b (known b (inr (inl refl))) s k)
  formed_stays falsity known h = tt
  formed_stays truth known h = tt
  formed_stays (negation a) known h = predicate_stays a h
  formed_stays (join c a b) known h = (predicate_stays a h.0, predicate_stays b h.1)
  formed_stays (bind q x b) known h = (longer _ _ grows.variables_grow.0 x grows.variables_grow.1 h.0, predicate_stays b h.1)
  formed_stays (equal a b) known (t, h, k) = (t, typed_stays v v' wf grows formulas_fall a (known a (inl refl)) t h, typed_stays v v' wf grows formulas_fall b (known b (inr (inl refl))) t k)
  formed_stays (member a s) known (h, k) = (longer _ _ grows.sets_grow.0 s grows.sets_grow.1 h, rw (grown_at v.sets v'.sets grows.sets_grow.0 0 s grows.sets_grow.1 h) (typed_stays v v' wf grows formulas_fall a (known a (inl refl)) _ k))

pub stays_well_formed : StaysWellFormed
stays_well_formed v v' wf grows new = record {
  types_fall = types_fall v v' wf grows new;
  formulas_fall = formulas_fall v v' wf grows new;
  products_once = λ t r a b i j. ⊎_elim
      (λ h. ⊎_elim (λ k. wf.products_once t r a b (sym (sort_stays v v' grows t h) ∙ i) (sym (sort_stays v v' grows r k) ∙ j))
      (λ k. sym (new.products_once r t a b k j i)) (cases_lt r (length v.types)))
      (λ h. new.products_once t r a b h i j) (cases_lt t (length v.types));
  variables_typed = λ x h. ⊎_elim
      (λ k. rw (variable_type_stays v v' grows x k) (longer _ _ grows.types_grow.0 _ grows.types_grow.1 (wf.variables_typed x k)))
      (λ k. longer _ _ grows.types_grow.0 _ grows.types_grow.1 (new.variables_typed x k h)) (cases_lt x (length v.variables));
  sets_typed = λ s h. ⊎_elim
      (λ k. rw (grown_at v.sets v'.sets grows.sets_grow.0 0 s grows.sets_grow.1 k) (longer _ _ grows.types_grow.0 _ grows.types_grow.1 (wf.sets_typed s k)))
      (λ k. longer _ _ grows.types_grow.0 _ grows.types_grow.1 (new.sets_typed s k h)) (cases_lt s (length v.sets));
  formed = λ n h. ⊎_elim
      (λ k. rw (node_stays v v' grows n k) (formed_stays v v' wf grows new (node v n) (λ m i. let l : m < n = wf.formulas_fall n m i in omega arith) (wf.formed n k)))
      (λ k. formed_stays v v' wf grows new (node v' n) (λ m i. new.operands_known n m k i) (new.formed n k h)) (cases_lt n (length v.formulas));
  records_once = λ n m h k e. ⊎_elim
      (λ i. ⊎_elim (λ j. wf.records_once n m i j (sym (node_stays v v' grows n i) ∙ e ∙ node_stays v v' grows m j))
      (λ j. sym (new.records_once m n j k h (sym e))) (cases_lt m (length v.formulas)))
      (λ i. new.records_once n m i h k e) (cases_lt n (length v.formulas));
}

-- what stands from the old end on in a list with one more
pushed : {A : Type 0} (xs : List A) (x d : A) (n : ℕ) → length xs ≤ n → ((n ≡ length xs) × (get_or (xs ++ x ∷ []) n d ≡ x)) ⊎ (get_or (xs ++ x ∷ []) n d ≡ d)
pushed [] x d zero h = inl (refl, refl)
pushed [] x d (suc n) h = inr refl
pushed (y ∷ xs) x d zero h = absurd (omega arith)
pushed (y ∷ xs) x d (suc n) h = ⊎_elim (λ e. inl (ap suc e.0, e.1)) inr (pushed xs x d n (omega arith))

pub enters_well : EntersWell
unfolding node sort
enters_well v s wf known formed once = stays_well_formed v (with_formula v s) wf
    (record { types_grow = ([], sym (append-nil _)); variables_grow = ([], sym (append-nil _)); sets_grow = ([], sym (append-nil _)); formulas_grow = (s ∷ [], refl) })
    (record {
      types_known = λ t r h i. absurd (subst (λ q. In r (parts q)) (get_or-eq_default v.types carrier h) i);
      products_once = λ t r a b h e j. absurd (omega (arith, product_known (with_formula v s) t a b e));
      variables_typed = λ x h k. absurd (omega arith);
      sets_typed = λ x h k. absurd (omega arith);
      operands_known = λ n m h i. ⊎_elim (λ e. known m (rw e.1 at i)) (λ e. absurd (subst (λ r. In m (operands r)) e i)) (pushed v.formulas s falsity n h);
      formed = λ n h k. ⊎_elim (λ e. rw e.1 formed) (λ e. rw e tt) (pushed v.formulas s falsity n h);
      records_once = λ n m h k l e.
          let d = length-append v.formulas (s ∷ []) in
          let q : n ≡ length v.formulas = omega arith in
          ⊎_elim
          (λ i. absurd (once m i (sym (get_or-append v.formulas (s ∷ []) falsity m i) ∙ sym e ∙ rw q (get_or-append_seam v.formulas s [] falsity))))
          (λ i. omega arith) (cases_lt m (length v.formulas));
    })

no_operand : (v : Vocabulary) (n m : ℕ) → length v.formulas ≤ n → In m (operands (get_or v.formulas n falsity)) → ⊥
no_operand v n m h i = subst (λ q. In m (operands q)) (get_or-eq_default v.formulas falsity h) i

no_part : (v : Vocabulary) (t r : ℕ) → length v.types ≤ t → In r (parts (get_or v.types t carrier)) → ⊥
no_part v t r h i = subst (λ q. In r (parts q)) (get_or-eq_default v.types carrier h) i

pub enters_type : (v : Vocabulary) (s : Sort ℕ) → WellFormed v → ((r : ℕ) → In r (parts s) → r < length v.types) →
    ((t a b : ℕ) → s ≡ product a b → t < length v.types → sort v t ≡ s → ⊥) → WellFormed (with_type v s)
unfolding node sort
enters_type v s wf known once = stays_well_formed v (with_type v s) wf
    (record { types_grow = (s ∷ [], refl); variables_grow = ([], sym (append-nil _)); sets_grow = ([], sym (append-nil _)); formulas_grow = ([], sym (append-nil _)) })
    (record {
      types_known = λ t r h i. ⊎_elim (λ e. known r (rw e.1 at i)) (λ e. absurd (subst (λ q. In r (parts q)) e i)) (pushed v.types s carrier t h);
      products_once = λ t r a b h i j.
          let d = length-append v.types (s ∷ []) in
          let k : t < length (v.types ++ s ∷ []) = product_known (with_type v s) t a b i in
          let l : r < length (v.types ++ s ∷ []) = product_known (with_type v s) r a b j in
          let q : t ≡ length v.types = omega arith in
          let at_end : get_or (v.types ++ s ∷ []) t carrier ≡ s = rw q (get_or-append_seam v.types s [] carrier) in
          ⊎_elim (λ o. absurd (once r a b (sym at_end ∙ i) o (sym (get_or-append v.types (s ∷ []) carrier r o) ∙ j ∙ sym i ∙ at_end)))
          (λ o. omega arith) (cases_lt r (length v.types));
      variables_typed = λ x h k. absurd (omega arith);
      sets_typed = λ x h k. absurd (omega arith);
      operands_known = λ n m h i. absurd (no_operand v n m h i);
      formed = λ n h k. absurd (omega arith);
      records_once = λ n m h k l e. absurd (omega arith);
    })

pub enters_variable : (v : Vocabulary) (t : ℕ) → WellFormed v → t < length v.types → WellFormed (with_variable v t)
unfolding node sort variable_type
enters_variable v t wf known = stays_well_formed v (with_variable v t) wf
    (record { types_grow = ([], sym (append-nil _)); variables_grow = (t ∷ [], refl); sets_grow = ([], sym (append-nil _)); formulas_grow = ([], sym (append-nil _)) })
    (record {
      types_known = λ s r h i. absurd (no_part v s r h i);
      products_once = λ s r a b h e j. absurd (omega (arith, product_known (with_variable v t) s a b e));
      variables_typed = λ x h k. ⊎_elim (λ e. rw e.1 known) (λ e. rw e (omega arith)) (pushed v.variables t 0 x h);
      sets_typed = λ x h k. absurd (omega arith);
      operands_known = λ n m h i. absurd (no_operand v n m h i);
      formed = λ n h k. absurd (omega arith);
      records_once = λ n m h k l e. absurd (omega arith);
    })

pub enters_set : (v : Vocabulary) (t : ℕ) → WellFormed v → t < length v.types → WellFormed (with_set v t)
unfolding node sort
enters_set v t wf known = stays_well_formed v (with_set v t) wf
    (record { types_grow = ([], sym (append-nil _)); variables_grow = ([], sym (append-nil _)); sets_grow = (t ∷ [], refl); formulas_grow = ([], sym (append-nil _)) })
    (record {
      types_known = λ s r h i. absurd (no_part v s r h i);
      products_once = λ s r a b h e j. absurd (omega (arith, product_known (with_set v t) s a b e));
      variables_typed = λ x h k. absurd (omega arith);
      sets_typed = λ x h k. ⊎_elim (λ e. rw e.1 known) (λ e. rw e (omega arith)) (pushed v.sets t 0 x h);
      operands_known = λ n m h i. absurd (no_operand v n m h i);
      formed = λ n h k. absurd (omega arith);
      records_once = λ n m h k l e. absurd (omega arith);
    })

pub starts_well : WellFormed empty_vocabulary
unfolding node sort
starts_well = record {
  types_fall = λ t r i. absurd i;
  formulas_fall = λ n m i. absurd i;
  products_once = λ t r a b e. absurd (omega (arith, product_known empty_vocabulary t a b e));
  variables_typed = λ x h. absurd (omega arith);
  sets_typed = λ x h. absurd (omega arith);
  formed = λ n h. absurd (omega arith);
  records_once = λ n m h. absurd (omega arith);
}

pub others_enter_well : OthersEnterWell
others_enter_well = (starts_well, enters_type, enters_variable, enters_set)
