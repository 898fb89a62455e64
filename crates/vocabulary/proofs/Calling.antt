-- A call is refused and changes nothing, or is granted and enters what was asked for.
use Rattle.std.proofs.Common.{◌≡◌, ℕ, suc, ◌<◌, Bool, true, false, cond, ◌&&◌, T, ltb, ◌⊎◌, List, [], ◌∷◌, ◌++◌, length, get_or, is_some, Some, None, Option, unwrap_or, sym, refl, ap, ◌∙◌, subst, inl, inr, append-nil, arith}
use Rattle.std.specs.Option.{option_map}
use Rattle.std.proofs.lemmas.List.{get_or_push, length_push}
use Rattle.std.proofs.lemmas.Bool.{ltb-true, and_parts}
use Rattle.logic.specs.Formulas.{Shape, falsity, Sort, carrier, Vocabulary, node, sort, variable_type, element_type, WellFormed}
use Rattle.logic.specs.Growing.{Grows, with_type, with_variable, with_set, with_formula}
use Rattle.logic.specs.Formulas as logic
use Rattle.logic.specs.Deciding.{found, product_number}
use Rattle.logic.proofs.Deciding.{found_means, product_found}
use Rattle.logic.proofs.Entering as entering
use Rattle.logic.proofs.Keeping.{growth_keeps}
use Rattle.formulas.specs.declared.calls.Call.{Call}
use Rattle.formulas.specs.declared.calls.Call.TheVariants.{NewCarrier, NewProduct, NewVariable, NewSetName, EnterFormula}
use Rattle.formulas.specs.declared.kinds.Kind.{Kind}
use Rattle.formulas.specs.declared.records.Record.{Record}
use Rattle.formulas.specs.declared.refusals.Refusal.{Refusal}
use Rattle.formulas.specs.declared.refusals.Refusal.TheVariants.{TypesFull, UnknownType, VariablesFull, SetNamesFull, UnknownKind, FormulasFull}
use Rattle.formulas.specs.Kinds.{kind_numbered}
use Rattle.formulas.specs.Records.{entry, shape_of, record_of, same_record}
use Rattle.formulas.proofs.Shapes.{forth, same_means}
use Rattle.vocabulary.specs.Calls.{Outcome, granted, refused, knows_type, add_type, product_or, objection, formula_number, settle, enter_unless, enter_kind, called, Means, EnteringLaw}
use Rattle.vocabulary.proofs.Entered.{well_entered}
use Rattle.vocabulary.proofs.Kept.{carrier_once, product_known, product_once}

-- the last of a list with one more
pushed : {A : Type 0} (xs : List A) (x d : A) → (length xs < length (xs ++ x ∷ [])) × (get_or (xs ++ x ∷ []) (length xs) d ≡ x)
pushed xs x d = (omega (arith, length_push xs x), get_or_push xs x d (length xs) refl)

found_below : {A : Type 0} (p : A → Bool) (xs : List A) → T (is_some (found p xs)) → unwrap_or (found p xs) 0 < length xs
found_below p [] t = absurd t
found_below p (x ∷ xs) t = go (p x) (found p xs) (found_below p xs) t
  where
    go : (b : Bool) (o : Option ℕ) → (T (is_some o) → unwrap_or o 0 < length xs) → T (is_some (cond b (Some 0) (option_map suc o))) → unwrap_or (cond b (Some 0) (option_map suc o)) 0 < suc (length xs)
    go true o f t = omega arith
    go false None f t = absurd t
    go false (Some m) f t = let h = f tt in omega arith

module _ (v : Vocabulary) (wf : WellFormed v) where
  unchanged : Grows v v
  unchanged = record { types_grow = ([], sym (append-nil _)); variables_grow = ([], sym (append-nil _)); sets_grow = ([], sym (append-nil _)); formulas_grow = ([], sym (append-nil _)) }

  -- refused and unchanged, or granted a number of which P is so afterwards
  abbrev Lawful : (Vocabulary → ℕ → Type 0) → Outcome → Type 0
  Lawful P o = ((e : Refusal) × (o ≡ refused e v)) ⊎ ((n : ℕ) × (w : Vocabulary) × (o ≡ granted n w) × WellFormed w × Grows v w × P w n)

  module _ (P : Vocabulary → ℕ → Type 0) where
    either : (b : Bool) (x y : Outcome) → (b ≡ true → Lawful P x) → Lawful P y → Lawful P (cond b x y)
    either true x y h k = h refl
    either false x y h k = k

    no : (e : Refusal) → Lawful P (refused e v)
    no e = inl (e, refl)

    -- what is there already
    there : (n : ℕ) → P v n → Lawful P (granted n v)
    there n p = inr (n, v, refl, wf, unchanged, p)

  abbrev NamesType : Sort ℕ → Vocabulary → ℕ → Type 0
  NamesType s w n = (n < length w.types) × (sort w n ≡ s)

  a_type : (s : Sort ℕ) → WellFormed (with_type v s) → Lawful (NamesType s) (add_type v s)
  unfolding sort
  a_type s wf' = either (NamesType s) (ltb (length v.types) 64) (granted (length v.types) (with_type v s)) (refused TypesFull v)
      (λ _. inr (
        length v.types,
        with_type v s,
        refl,
        wf',
        record { types_grow = (s ∷ [], refl); variables_grow = ([], sym (append-nil _)); sets_grow = ([], sym (append-nil _)); formulas_grow = ([], sym (append-nil _)) },
        pushed v.types s carrier,
      )) (no (NamesType s) TypesFull)

  a_product : (s t : ℕ) → knows_type v s ≡ true → knows_type v t ≡ true → (o : Option ℕ) → product_number v s t ≡ o → Lawful (NamesType (logic.product s t)) (product_or v s t o)
  a_product s t h k (Some n) e =
      let f = product_found v s t (subst (λ (o : Option ℕ). T (is_some o)) (sym e) tt) in
      let i : sort v n ≡ logic.product s t = subst (λ m. sort v m ≡ logic.product s t) (ap (λ (o : Option ℕ). unwrap_or o 0) e) f in
      there (NamesType (logic.product s t)) n (entering.product_known v n s t i, i)
  a_product s t h k None e = a_type (logic.product s t)
      (entering.enters_type v (logic.product s t) wf (product_known v s t (ltb-true s (length v.types) h) (ltb-true t (length v.types) k)) (product_once v s t e))

  abbrev NamesVariable : ℕ → Vocabulary → ℕ → Type 0
  NamesVariable t w n = (n < length w.variables) × (variable_type w n ≡ t)

  a_variable : (t : ℕ) → knows_type v t ≡ true →
      Lawful (NamesVariable t) (cond (ltb (length v.variables) 256) (granted (length v.variables) (with_variable v t)) (refused VariablesFull v))
  unfolding variable_type
  a_variable t h = either (NamesVariable t) (ltb (length v.variables) 256) (granted (length v.variables) (with_variable v t)) (refused VariablesFull v)
      (λ _. inr (
        length v.variables,
        with_variable v t,
        refl,
        entering.enters_variable v t wf (ltb-true t (length v.types) h),
        record { types_grow = ([], sym (append-nil _)); variables_grow = (t ∷ [], refl); sets_grow = ([], sym (append-nil _)); formulas_grow = ([], sym (append-nil _)) },
        pushed v.variables t 0,
      )) (no (NamesVariable t) VariablesFull)

  abbrev NamesSetName : ℕ → Vocabulary → ℕ → Type 0
  NamesSetName t w n = (n < length w.sets) × (element_type w n ≡ t)

  a_set_name : (t : ℕ) → knows_type v t ≡ true →
      Lawful (NamesSetName t) (cond (ltb (length v.sets) 64) (granted (length v.sets) (with_set v t)) (refused SetNamesFull v))
  a_set_name t h = either (NamesSetName t) (ltb (length v.sets) 64) (granted (length v.sets) (with_set v t)) (refused SetNamesFull v)
      (λ _. inr (
        length v.sets,
        with_set v t,
        refl,
        entering.enters_set v t wf (ltb-true t (length v.types) h),
        record { types_grow = ([], sym (append-nil _)); variables_grow = ([], sym (append-nil _)); sets_grow = (t ∷ [], refl); formulas_grow = ([], sym (append-nil _)) },
        pushed v.sets t 0,
      )) (no (NamesSetName t) SetNamesFull)

  abbrev NamesFormula : Shape ℕ → Vocabulary → ℕ → Type 0
  NamesFormula s w n = (n < length w.formulas) × (node w n ≡ s)

  a_record : (r : Record) → objection v r ≡ None → (o : Option ℕ) → formula_number v r ≡ o → Lawful (NamesFormula (shape_of r)) (settle v r o)
  unfolding node
  a_record r h (Some n) e =
      let p : Shape ℕ → Bool = λ s. same_record r (record_of s) in
      let some : T (is_some (found p v.formulas)) = subst (λ (o : Option ℕ). T (is_some o)) (sym e) tt in
      let i : unwrap_or (found p v.formulas) 0 ≡ n = ap (λ (o : Option ℕ). unwrap_or o 0) e in
      let t : T (same_record r (record_of (get_or v.formulas n falsity))) = subst (λ k. T (p (get_or v.formulas k falsity))) i (found_means p falsity v.formulas some) in
      there (NamesFormula (shape_of r)) n (
        subst (λ k. k < length v.formulas) i (found_below p v.formulas some),
        forth (get_or v.formulas n falsity) ∙ ap shape_of ((same_means r (record_of (get_or v.formulas n falsity))).0 t),
      )
  a_record r h None e = either (NamesFormula (shape_of r)) (ltb (length v.formulas) 2048) (granted (length v.formulas) (with_formula v (shape_of r))) (refused FormulasFull v)
      (λ _. inr (
        length v.formulas,
        with_formula v (shape_of r),
        refl,
        well_entered v r wf h e,
        record { types_grow = ([], sym (append-nil _)); variables_grow = ([], sym (append-nil _)); sets_grow = ([], sym (append-nil _)); formulas_grow = (shape_of r ∷ [], refl) },
        pushed v.formulas (shape_of r) falsity,
      )) (no (NamesFormula (shape_of r)) FormulasFull)

  allowed : (r : Record) (o : Option Refusal) → objection v r ≡ o → Lawful (NamesFormula (shape_of r)) (enter_unless v r o)
  allowed r (Some e) h = no (NamesFormula (shape_of r)) e
  allowed r None h = a_record r h (formula_number v r) refl

  a_formula : (k a b : ℕ) (o : Option Kind) → kind_numbered k ≡ o → Lawful (λ w n. Means w (EnterFormula k a b) n) (enter_kind v a b o)
  a_formula k a b None e = no (λ w n. Means w (EnterFormula k a b) n) UnknownKind
  a_formula k a b (Some j) e = elim (allowed (entry j a b) (objection v (entry j a b)) refl) [
    | inl h ↦ inl h
    | inr (n, w, i, wf', g, m) ↦ inr (n, w, i, wf', g, (m.0, (j, e, m.1)))
  ]

  lawful : (c : Call) → Lawful (λ w n. Means w c n) (called v c)
  lawful NewCarrier = a_type carrier (entering.enters_type v carrier wf (λ r i. absurd i) (carrier_once v))
  lawful (NewProduct s t) = either (NamesType (logic.product s t)) (knows_type v s && knows_type v t) (product_or v s t (product_number v s t)) (refused UnknownType v)
      (λ h. let p = and_parts (knows_type v s) (knows_type v t) h in a_product s t p.0 p.1 (product_number v s t) refl) (no (NamesType (logic.product s t)) UnknownType)
  lawful (NewVariable t) = either (NamesVariable t) (knows_type v t)
      (cond (ltb (length v.variables) 256) (granted (length v.variables) (with_variable v t)) (refused VariablesFull v)) (refused UnknownType v)
      (a_variable t) (no (NamesVariable t) UnknownType)
  lawful (NewSetName t) = either (NamesSetName t) (knows_type v t)
      (cond (ltb (length v.sets) 64) (granted (length v.sets) (with_set v t)) (refused SetNamesFull v)) (refused UnknownType v)
      (a_set_name t) (no (NamesSetName t) UnknownType)
  lawful (EnterFormula k a b) = a_formula k a b (kind_numbered k) refl

  stated : (c : Call) (o : Outcome) → Lawful (λ w n. Means w c n) o → EnteringLaw v c o.answer o.after
  stated c o (inl (e, i)) = subst (λ (p : Outcome). EnteringLaw v c p.answer p.after) (sym i) (record {
    well_formed = wf;
    keeps = growth_keeps v v wf wf unchanged;
    means = λ n h. let z : ◌≡◌ {A = ℕ} 0 1 = cc in absurd (omega arith);
    unchanged = λ d h. refl;
  })
  stated c o (inr (n, w, i, wf', g, m)) = subst (λ (p : Outcome). EnteringLaw v c p.answer p.after) (sym i) (record {
    well_formed = wf';
    keeps = growth_keeps v w wf wf' g;
    means = λ k h. let same : n ≡ k = cc in subst (Means w c) same m;
    unchanged = λ d h. let z : ◌≡◌ {A = ℕ} 0 1 = cc in absurd (omega arith);
  })

  -- every call keeps the law
  pub entering_law : (c : Call) → EnteringLaw v c (called v c).answer (called v c).after
  entering_law c = stated c (called v c) (lawful c)
