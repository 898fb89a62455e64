-- What is entered later changes nothing for what was there.
use Rattle.std.proofs.Common.{◌≡◌, ℕ, ◌<◌, List, ◌++◌, length, get_or, refl, ap, ◌∙◌, arith}
use lib.ListN.{get_or-append}
use Rattle.logic.specs.Formulas.{Shape, variable, pair, falsity, truth, negation, join, bind, equal, member, through, carrier, Vocabulary, node, sort, variable_type, ask, Formed, WellFormed}
use Rattle.logic.specs.Growing.{Grows}
use Rattle.logic.specs.Meanings.{Value, Structure, values, values_layer, holds, meaning, meaning_layer, quantify, assign, truth_value}
use Rattle.logic.proofs.Falling.{asked, by_operands, by_parts, through_agree}
use Rattle.logic.proofs.Typing.{values_is, across_agree}

pub grown_at : {A : Type 0} (xs ys more : List A) (d : A) (n : ℕ) → ys ≡ xs ++ more → n < length xs → get_or ys n d ≡ get_or xs n d
grown_at xs ys more d n e h = rw e (get_or-append xs more d n h)

module _ (v v' : Vocabulary) (grows : Grows v v') where
  pub sort_stays : (t : ℕ) → t < length v.types → sort v' t ≡ sort v t
  unfolding sort
  sort_stays t = grown_at _ _ grows.types_grow.0 carrier t grows.types_grow.1

  pub variable_type_stays : (x : ℕ) → x < length v.variables → variable_type v' x ≡ variable_type v x
  unfolding variable_type
  variable_type_stays x = grown_at _ _ grows.variables_grow.0 0 x grows.variables_grow.1

  pub node_stays : (n : ℕ) → n < length v.formulas → node v' n ≡ node v n
  unfolding node
  node_stays n = grown_at _ _ grows.formulas_grow.0 falsity n grows.formulas_grow.1

module _ (v v' : Vocabulary) (grows : Grows v v') (wf : WellFormed v) (wf' : WellFormed v') where
  pub values_stay : (w : Structure) (t : ℕ) → t < length v.types → values v' w t ≡ values v w t
  values_stay w = by_parts v wf.types_fall (λ t. t < length v.types → values v' w t ≡ values v w t) λ t ih h.
      rw (values_is v' wf' w t, values_is v wf w t, sort_stays v v' grows t h)
      (ap (values_layer w t) (across_agree _ _ (sort v t) λ r i. let l : r < t = wf.types_fall t r i in ih r i (omega arith)))

  -- a question's answer stays where its layer does
  pub stays {ℓ} : {A : Type ℓ} (d : A) (layer layer' : ℕ → Shape A → A) →
      ((n : ℕ) → n < length v.formulas → (g : ℕ → A) → layer' n (through g (node v n)) ≡ layer n (through g (node v n))) →
      (n : ℕ) → n < length v.formulas → ask v' d layer' n ≡ ask v d layer n
  stays d layer layer' same = by_operands v wf.formulas_fall _ λ n ih h.
      rw (asked v' wf'.formulas_fall d layer' n, asked v wf.formulas_fall d layer n, node_stays v v' grows n h)
      (same n h (ask v' d layer') ∙ ap (layer n) (through_agree _ _ (node v n) λ m i. let l : m < n = wf.formulas_fall n m i in ih m i (omega arith)))

  module _ (w : Structure) where
    layer_stays : (s : Shape ℕ) → Formed v s → (g : ℕ → (ℕ → Value) → Value) → meaning_layer v' w (through g s) ≡ meaning_layer v w (through g s)
    layer_stays (variable x) h g = refl
    layer_stays (pair a b) h g = refl
    layer_stays falsity h g = refl
    layer_stays truth h g = refl
    layer_stays (negation a) h g = refl
    layer_stays (join c a b) h g = refl
    layer_stays (bind q x b) h g =
        ap (λ l f. truth_value (quantify q (λ u. holds (g b (assign f x u))) l)) (rw (variable_type_stays v v' grows x h.0) (values_stay w (variable_type v x) (wf.variables_typed x h.0)))
    layer_stays (equal a b) h g = refl
    layer_stays (member a s) h g = refl

    pub meaning_stays : (n : ℕ) → n < length v.formulas → meaning v' w n ≡ meaning v w n
    unfolding meaning
    meaning_stays = stays _ (λ _. meaning_layer v w) (λ _. meaning_layer v' w) λ n h g. layer_stays (node v n) (wf.formed n h) g
