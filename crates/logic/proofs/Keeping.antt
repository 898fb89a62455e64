-- Growing a vocabulary changes nothing of what older numbers mean.
use Rattle.std.proofs.Common.{◌≡◌, ℕ, ◌<◌, not, T, ltb, ◌↔◌, List, [], ◌∷◌, length, sym, refl, ◌∙◌, subst, inl, inr, ⊎_elim, arith, lt→ltb}
use Rattle.std.specs.List.{AllByRecursion}
use Rattle.logic.specs.Formulas.{In, Shape, variable, pair, falsity, truth, negation, join, bind, equal, member, operands, through, Vocabulary, node, variable_type, element_type, free, free_layer, HasType, IsReplaced, Substituted, IsSubstitution, predicate_shape, WellFormed, weight, weight_layer, depth, depth_layer}
use Rattle.logic.specs.Deciding.{type_of, is_expression}
use Rattle.logic.specs.Growing.{Grows, Known, GrowthKeeps}
use Rattle.logic.specs.Meanings.{Value, Structure, Interpretation, Sequent, true_in, refuted, Valid}
use Rattle.logic.proofs.Tests.{and_both, and_right}
use Rattle.logic.proofs.Falling.{by_operands}
use Rattle.logic.proofs.Coincidence.{substituted_is}
use Rattle.logic.proofs.Growth.{grown_at, sort_stays, variable_type_stays, node_stays, values_stay, stays, meaning_stays}
use Rattle.logic.proofs.Entering.{longer, typed_stays}
use Rattle.logic.proofs.Deciding.{expressive, typed, tested, unique}

module _ (v v' : Vocabulary) (wf : WellFormed v) (wf' : WellFormed v') (grows : Grows v v') where
  abbrev Old : ℕ → Type 0
  Old n = n < length v.formulas

  weight_stays : (n : ℕ) → Old n → weight v' n ≡ weight v n
  unfolding weight
  weight_stays = stays v v' grows wf wf' 0 (λ _. weight_layer) (λ _. weight_layer) λ n h g. refl

  depth_stays : (n : ℕ) → Old n → depth v' n ≡ depth v n
  unfolding depth
  depth_stays = stays v v' grows wf wf' 0 (λ _. depth_layer) (λ _. depth_layer) λ n h g. refl

  free_stays : (x n : ℕ) → Old n → free v' x n ≡ free v x n
  unfolding free
  free_stays x = stays v v' grows wf wf' _ (λ _. free_layer x) (λ _. free_layer x) λ n h g. refl

  typing_stays : (n t : ℕ) → Old n → HasType v' n t ↔ HasType v n t
  typing_stays n t h = (older, newer t)
    where
      newer : (t : ℕ) → HasType v n t → HasType v' n t
      newer = typed_stays v v' wf grows wf'.formulas_fall n h

      older : HasType v' n t → HasType v n t
      older k =
          let shape = and_right (ltb n (length v'.formulas)) (not (predicate_shape (node v' n))) (expressive v' wf'.formulas_fall n t k) in
          let test : T (is_expression v n) = and_both (ltb n (length v.formulas)) (not (predicate_shape (node v n))) (lt→ltb n _ h)
          (subst (λ s. T (not (predicate_shape s))) (node_stays v v' grows n h) shape) in
          let old = typed v wf.formulas_fall (tested v wf) n test in
          subst (HasType v n) (sym (unique v' wf' n (type_of v n) (newer _ old)) ∙ unique v' wf' n t k) old

  -- an operand of a known formula is known
  old_below : (q : ℕ) (s : Shape ℕ) → Old q → node v q ≡ s → (m : ℕ) → In m (operands s) → Old m
  old_below q s h e m i = let l : m < q = wf.formulas_fall q m (rw e i) in omega arith

  module _ (x e : ℕ) (old-e : Old e) where
    abbrev Stays : ℕ → Type 0
    Stays p = (q : ℕ) → Old q → Substituted v' x e p q ↔ Substituted v x e p q

    one : (make : ℕ → Shape ℕ) → ((c : ℕ) → In c (operands (make c))) → (a : ℕ) → Stays a → (q : ℕ) → Old q →
        ((c : ℕ) × (node v' q ≡ make c) × Substituted v' x e a c) ↔ ((c : ℕ) × (node v q ≡ make c) × Substituted v x e a c)
    one make has a ih q h = (
      λ (c, i, j). let k = sym (node_stays v v' grows q h) ∙ i in (c, k, (ih c (old_below q (make c) h k c (has c))).0 j),
      λ (c, i, j). (c, node_stays v v' grows q h ∙ i, (ih c (old_below q (make c) h i c (has c))).1 j),
    )

    two : (make : ℕ → ℕ → Shape ℕ) → ((c d : ℕ) → In c (operands (make c d)) × In d (operands (make c d))) → (a b : ℕ) → Stays a → Stays b →
        (q : ℕ) → Old q → ((c d : ℕ) × (node v' q ≡ make c d) × Substituted v' x e a c × Substituted v' x e b d) ↔
        ((c d : ℕ) × (node v q ≡ make c d) × Substituted v x e a c × Substituted v x e b d)
    two make has a b ih jh q h = (
      λ (c, d, i, j, l). let k = sym (node_stays v v' grows q h) ∙ i in
          (c, d, k, (ih c (old_below q (make c d) h k c (has c d).0)).0 j, (jh d (old_below q (make c d) h k d (has c d).1)).0 l),
      λ (c, d, i, j, l).
          (c, d, node_stays v v' grows q h ∙ i, (ih c (old_below q (make c d) h i c (has c d).0)).1 j, (jh d (old_below q (make c d) h i d (has c d).1)).1 l),
    )

    replaced_stays : (s : Shape ℕ) → ((m : ℕ) → In m (operands s) → Stays m) → (q : ℕ) → Old q →
        IsReplaced v' e (through (Substituted v' x e) s) q ↔ IsReplaced v e (through (Substituted v x e) s) q
    replaced_stays (variable y) ih q h = (λ i. i, λ i. i)
    replaced_stays (pair a b) ih q h = two pair (λ c d. (inl refl, inr (inl refl))) a b (ih a (inl refl)) (ih b (inr (inl refl))) q h
    replaced_stays falsity ih q h = (λ i. i, λ i. i)
    replaced_stays truth ih q h = (λ i. i, λ i. i)
    replaced_stays (negation a) ih q h = one negation (λ c. inl refl) a (ih a (inl refl)) q h
    replaced_stays (join k a b) ih q h = two (join k) (λ c d. (inl refl, inr (inl refl))) a b (ih a (inl refl)) (ih b (inr (inl refl))) q h
    replaced_stays (bind k y b) ih q h =
        let r = one (bind k y) (λ c. inl refl) b (ih b (inl refl)) q h in (
          λ (c, i, n, j). let s = r.0 (c, i, j) in (s.0, s.1, subst (λ t. T (not t)) (free_stays y e old-e) n, s.2),
          λ (c, i, n, j). let s = r.1 (c, i, j) in (s.0, s.1, subst (λ t. T (not t)) (sym (free_stays y e old-e)) n, s.2),
        )
    replaced_stays (equal a b) ih q h = two equal (λ c d. (inl refl, inr (inl refl))) a b (ih a (inl refl)) (ih b (inr (inl refl))) q h
    replaced_stays (member a s) ih q h = one (λ c. member c s) (λ c. inl refl) a (ih a (inl refl)) q h

    substituted_stays : (p : ℕ) → Old p → Stays p
    substituted_stays = by_operands v wf.formulas_fall (λ p. Old p → Stays p) λ p ih h q k.
        let r = replaced_stays (node v p) (λ m i. ih m i (old_below p (node v p) h refl m i)) q k in
        rw (substituted_is v' wf'.formulas_fall x e p, substituted_is v wf.formulas_fall x e p, node_stays v v' grows p h, free_stays x p h)
        (⊎_elim inl (λ (t, i). inr (t, r.0 i)), ⊎_elim inl (λ (t, i). inr (t, r.1 i)))

  substitution_stays : (q x e p : ℕ) → AllByRecursion Old (q ∷ e ∷ p ∷ []) → x < length v.variables → IsSubstitution v' q x e p ↔ IsSubstitution v q x e p
  substitution_stays q x e p (hq, (he, (hp, _))) hx = (
    λ (_, _, t, s). (hp, hx, (typing_stays e _ he).0 (rw (variable_type_stays v v' grows x hx) at t), (substituted_stays x e he p hp q hq).0 s),
    λ (_, _, t, s). (
      longer _ _ grows.formulas_grow.0 p grows.formulas_grow.1 hp,
      longer _ _ grows.variables_grow.0 x grows.variables_grow.1 hx,
      rw (variable_type_stays v v' grows x hx) ((typing_stays e _ he).1 t),
      (substituted_stays x e he p hp q hq).1 s,
    ),
  )

  sets_stay : (s : ℕ) → s < length v.sets → element_type v' s ≡ element_type v s
  sets_stay s = grown_at v.sets v'.sets grows.sets_grow.0 0 s grows.sets_grow.1

  module _ (w : Structure) (f : ℕ → Value) where
    interpretations_stay : Interpretation v' w f → Interpretation v w f
    interpretations_stay i = record {
      variables_typed = λ x h. rw (variable_type_stays v v' grows x h, values_stay v v' grows wf wf' w (variable_type v x) (wf.variables_typed x h)) at
          (i.variables_typed x (longer _ _ grows.variables_grow.0 x grows.variables_grow.1 h));
      sets_typed = λ s h u t. rw (sets_stay s h, values_stay v v' grows wf wf' w (element_type v s) (wf.sets_typed s h)) at
          (i.sets_typed s (longer _ _ grows.sets_grow.0 s grows.sets_grow.1 h) u t);
    }

    refuted_stays : (ns : List ℕ) → AllByRecursion Old ns → refuted (true_in v' w f) ns ≡ refuted (true_in v w f) ns
    refuted_stays [] known = refl
    refuted_stays (n ∷ ns) known = rw (meaning_stays v v' grows wf wf' w n known.0, refuted_stays ns known.1)

  validity_stays : (s : Sequent) → Known v s → Valid v s → Valid v' s
  validity_stays s known valid w f i =
      rw (meaning_stays v v' grows wf wf' w s.goal known.0, refuted_stays w f s.hypotheses known.1) (valid w f (interpretations_stay w f i))

pub growth_keeps : GrowthKeeps
growth_keeps v v' wf wf' grows = record {
  types_stay = sort_stays v v' grows;
  variables_stay = variable_type_stays v v' grows;
  sets_stay = sets_stay v v' wf wf' grows;
  formulas_stay = node_stays v v' grows;
  typing_stays = typing_stays v v' wf wf' grows;
  weight_stays = weight_stays v v' wf wf' grows;
  depth_stays = depth_stays v v' wf wf' grows;
  free_stays = free_stays v v' wf wf' grows;
  substitution_stays = substitution_stays v v' wf wf' grows;
  values_stay = values_stay v v' grows wf wf';
  meaning_stays = meaning_stays v v' grows wf wf';
  interpretations_stay = interpretations_stay v v' wf wf' grows;
  validity_stays = validity_stays v v' wf wf' grows;
}
