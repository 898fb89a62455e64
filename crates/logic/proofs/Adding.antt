-- The answers about formulas after one thing more is entered.
use Rattle.std.proofs.Common.{◌≡◌, ℕ, ◌<◌, ◌≤◌, true, false, not, T, ltb, [], ◌∷◌, length, sym, refl, ap, ◌∙◌, ⊎_elim, append-nil, lt→ltb}
use lib.Seq.{get_or-append_seam}
use Rattle.std.proofs.lemmas.Bool.{cases_Bool, cases_lt}
use Rattle.logic.specs.Formulas.{In, Shape, variable, pair, falsity, truth, negation, join, bind, equal, member, operands, through, Vocabulary, node, variable_type, ask, predicate_shape, Falling, WellFormed, Sort}
use Rattle.logic.specs.Growing.{Grows, with_type, with_variable, with_set, with_formula}
use Rattle.logic.specs.Deciding.{type_of, type_of_layer}
use Rattle.logic.proofs.Falling.{asked, through_agree}
use Rattle.logic.proofs.Tests.{and_both, is_so}
use Rattle.logic.proofs.Growth.{stays}
use Rattle.logic.proofs.Entering.{typed_stays}
use Rattle.logic.proofs.Deciding.{type_of_is, typed, tested, unique, node_past}

-- one formula more
module _ (v : Vocabulary) (s : Shape ℕ) (wf : WellFormed v) (wf' : WellFormed (with_formula v s)) (known : (m : ℕ) → In m (operands s) → m < length v.formulas) where
  grown : Grows v (with_formula v s)
  grown = record { types_grow = ([], sym (append-nil _)); variables_grow = ([], sym (append-nil _)); sets_grow = ([], sym (append-nil _)); formulas_grow = (s ∷ [], refl) }

  at_end : node (with_formula v s) (length v.formulas) ≡ s
  unfolding node
  at_end = get_or-append_seam v.formulas s [] falsity

  module _ {A : Type 0} (d : A) (layer layer' : Shape A → A) (same : (r : Shape A) → layer' r ≡ layer r) where
    pub kept_below : (n : ℕ) → n < length v.formulas → ask (with_formula v s) d (λ _. layer') n ≡ ask v d (λ _. layer) n
    kept_below = stays v (with_formula v s) grown wf wf' d (λ _. layer) (λ _. layer') λ n h g. same (through g (node v n))

    pub made_at_end : ask (with_formula v s) d (λ _. layer') (length v.formulas) ≡ layer (through (ask v d (λ _. layer)) s)
    made_at_end = asked (with_formula v s) wf'.formulas_fall d (λ _. layer') (length v.formulas)
        ∙ (same (through (ask (with_formula v s) d (λ _. layer')) (node (with_formula v s) (length v.formulas)))
        ∙ ap layer (ap (through (ask (with_formula v s) d (λ _. layer'))) at_end ∙ through_agree _ _ s λ m i. kept_below m (known m i)))

-- past the end each question is answered as for ⊥
pub made_past : {A : Type 0} (v : Vocabulary) → Falling v → (d : A) (layer : Shape A → A) (n : ℕ) → length v.formulas ≤ n → ask v d (λ _. layer) n ≡ layer falsity
made_past v falling d layer n h = asked v falling d (λ _. layer) n ∙ ap (λ r. layer (through (ask v d (λ _. layer)) r)) (node_past v n h)

pub type_layer_kept : (v : Vocabulary) (s r : Shape ℕ) → type_of_layer (with_formula v s) r ≡ type_of_layer v r
unfolding variable_type
type_layer_kept v s (variable x) = refl
type_layer_kept v s (pair a b) = refl
type_layer_kept v s falsity = refl
type_layer_kept v s truth = refl
type_layer_kept v s (negation a) = refl
type_layer_kept v s (join c a b) = refl
type_layer_kept v s (bind q x b) = refl
type_layer_kept v s (equal a b) = refl
type_layer_kept v s (member a t) = refl

untyped_layer : (v : Vocabulary) (s : Shape ℕ) → T (predicate_shape s) → type_of_layer v (through (type_of v) s) ≡ 0
untyped_layer v (variable x) t = absurd t
untyped_layer v (pair a b) t = absurd t
untyped_layer v falsity t = refl
untyped_layer v truth t = refl
untyped_layer v (negation a) t = refl
untyped_layer v (join c a b) t = refl
untyped_layer v (bind q x b) t = refl
untyped_layer v (equal a b) t = refl
untyped_layer v (member a s) t = refl

pub untyped : (v : Vocabulary) → Falling v → (n : ℕ) → T (predicate_shape (node v n)) → type_of v n ≡ 0
untyped v falling n t = type_of_is v falling n ∙ untyped_layer v (node v n) t

-- more types, variables and set names, the same formulas
module _ (v v' : Vocabulary) (wf : WellFormed v) (wf' : WellFormed v') (grows : Grows v v') (same : (n : ℕ) → node v' n ≡ node v n) where
  pub type_kept : (n : ℕ) → type_of v' n ≡ type_of v n
  type_kept n = ⊎_elim predicate expression (cases_Bool (predicate_shape (node v n)))
    where
      predicate : predicate_shape (node v n) ≡ true → type_of v' n ≡ type_of v n
      predicate e = untyped v' wf'.formulas_fall n (rw (same n) (is_so _ e)) ∙ sym (untyped v wf.formulas_fall n (is_so _ e))

      expression : predicate_shape (node v n) ≡ false → type_of v' n ≡ type_of v n
      expression e = ⊎_elim below past (cases_lt n (length v.formulas))
        where
          below : n < length v.formulas → type_of v' n ≡ type_of v n
          below h = unique v' wf' n (type_of v n) (typed_stays v v' wf grows wf'.formulas_fall n h (type_of v n)
              (typed v wf.formulas_fall (tested v wf) n (and_both (ltb n (length v.formulas)) (not (predicate_shape (node v n))) (lt→ltb n _ h) (rw e tt))))

          past : length v.formulas ≤ n → type_of v' n ≡ type_of v n
          past h = predicate (ap predicate_shape (node_past v n h))

-- one type, variable or set name more
module _ (v : Vocabulary) (wf : WellFormed v) where
  pub type_with_type : (s : Sort ℕ) → WellFormed (with_type v s) → (n : ℕ) → type_of (with_type v s) n ≡ type_of v n
  unfolding node
  type_with_type s wf' = type_kept v (with_type v s) wf wf'
      (record { types_grow = (s ∷ [], refl); variables_grow = ([], sym (append-nil _)); sets_grow = ([], sym (append-nil _)); formulas_grow = ([], sym (append-nil _)) }) λ n. refl

  pub type_with_variable : (t : ℕ) → WellFormed (with_variable v t) → (n : ℕ) → type_of (with_variable v t) n ≡ type_of v n
  unfolding node
  type_with_variable t wf' = type_kept v (with_variable v t) wf wf'
      (record { types_grow = ([], sym (append-nil _)); variables_grow = (t ∷ [], refl); sets_grow = ([], sym (append-nil _)); formulas_grow = ([], sym (append-nil _)) }) λ n. refl

  pub type_with_set : (t : ℕ) → WellFormed (with_set v t) → (n : ℕ) → type_of (with_set v t) n ≡ type_of v n
  unfolding node
  type_with_set t wf' = type_kept v (with_set v t) wf wf'
      (record { types_grow = ([], sym (append-nil _)); variables_grow = ([], sym (append-nil _)); sets_grow = (t ∷ [], refl); formulas_grow = ([], sym (append-nil _)) }) λ n. refl
