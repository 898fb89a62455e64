-- What a vocabulary keeps when it is begun and when a type, a variable or a set name is added.
use Rattle.std.proofs.Common.{◌≡◌, ℕ, ◌<◌, T, ltb, List, [], length, is_some, None, Option, Ok, Err, Result, ◌++◌, ◌∷◌, sym, refl, ap, ◌∙◌, subst, inl, inr, arith}
use Rattle.std.proofs.lemmas.Bool.{cond-true, lt-ltb}
use Rattle.logic.specs.Formulas.{In, Shape, Sort, carrier, parts, sort, Vocabulary, node, ask, descend, weight, depth, WellFormed}
use Rattle.logic.specs.Growing.{empty_vocabulary, with_type, with_variable, with_set}
use Rattle.logic.specs.Formulas as logic
use Rattle.logic.specs.Deciding.{type_of, product_number, Sure}
use Rattle.logic.proofs.Deciding.{product_some}
use Rattle.logic.proofs.Entering.{starts_well}
use Rattle.logic.proofs.Adding.{type_with_type, type_with_variable, type_with_set}
use Rattle.formulas.specs.declared.records.TypeDef.{TypeDef}
use Rattle.vocabulary.specs.declared.facts.Formula.{Formula}
use Rattle.formulas.specs.declared.refusals.Refusal.TheVariants.{TypesFull}
use Rattle.vocabulary.specs.Calls.{granted, refused, add_type}
use Rattle.formulas.specs.declared.refusals.Refusal.{Refusal}
use Rattle.vocabulary.specs.Lists.{Appends, view}
use Rattle.vocabulary.specs.Stored.{Weighed, Measured, Stored}

pub sure : {A : Type 0} → A → Sure A
sure a b k = k a

pub begun : (ts : List TypeDef) (vs ss : List ℕ) (fs : List Formula) → ts ≡ [] → vs ≡ [] → ss ≡ [] → fs ≡ [] → empty_vocabulary ≡ view ts vs ss fs
begun ts vs ss fs t v s f =
    sym (ap (λ (x : List TypeDef). view x vs ss fs) t ∙ (ap (λ (x : List ℕ). view [] x ss fs) v ∙ (ap (λ (x : List ℕ). view [] [] x fs) s ∙ ap (view [] [] []) f)))

-- a new vocabulary
pub begun_stored : (fs : List Formula) (v : Vocabulary) → empty_vocabulary ≡ v → fs ≡ [] → Stored v fs
unfolding type_of weight depth ask descend node
begun_stored fs v e f =
    subst (λ (w : Vocabulary). Stored w fs) e (subst (Stored empty_vocabulary) (sym f)
    (record { well_formed = starts_well; plain = λ k. refl; typed = λ k. refl; weighed = λ k. (refl, omega arith); measured = λ k. (refl, omega arith) }))

-- weight and depth are read from the formulas alone
module _ (v w : Vocabulary) (fs : List Formula) (same : w.formulas ≡ v.formulas) where
  weighed_kept : Weighed v fs → Weighed w fs
  unfolding weight ask node
  weighed_kept h = subst (λ (xs : List (Shape ℕ)). Weighed (record { types = w.types; variables = w.variables; sets = w.sets; formulas = xs }) fs) (sym same) h

  measured_kept : Measured v fs → Measured w fs
  unfolding depth ask node
  measured_kept h = subst (λ (xs : List (Shape ℕ)). Measured (record { types = w.types; variables = w.variables; sets = w.sets; formulas = xs }) fs) (sym same) h

-- a vocabulary with other types, variables or set names and the same formulas
stored_with : (v w : Vocabulary) (fs : List Formula) → Stored v fs → WellFormed w → w.formulas ≡ v.formulas → ((k : ℕ) → type_of w k ≡ type_of v k) → Stored w fs
stored_with v w fs h wf same types = record {
  well_formed = wf;
  plain = h.plain;
  typed = λ k. h.typed k ∙ sym (types k);
  weighed = weighed_kept v w fs same h.weighed;
  measured = measured_kept v w fs same h.measured;
}

module _ (v : Vocabulary) (fs : List Formula) (h : Stored v fs) where
  pub stored_with_type : (s : Sort ℕ) → WellFormed (with_type v s) → Stored (with_type v s) fs
  stored_with_type s wf = stored_with v (with_type v s) fs h wf refl (type_with_type v h.well_formed s wf)

  pub stored_with_variable : (t : ℕ) → WellFormed (with_variable v t) → Stored (with_variable v t) fs
  stored_with_variable t wf = stored_with v (with_variable v t) fs h wf refl (type_with_variable v h.well_formed t wf)

  pub stored_with_set : (t : ℕ) → WellFormed (with_set v t) → Stored (with_set v t) fs
  stored_with_set t wf = stored_with v (with_set v t) fs h wf refl (type_with_set v h.well_formed t wf)

-- what is so of a list before and after an item is appended is so whether it was appended or refused
pub appended : {A : Type 0} (P : List A → Type 0) (old new : List A) (item : A) (most : ℕ) (full : Refusal) (r : Result ℕ Refusal)
    → Appends old new item most full r → P old → P (old ++ item ∷ []) → P new
appended P old new item most full (Ok n) h before after = subst P (sym h.2) after
appended P old new item most full (Err e) h before after = subst P (sym h.2) before

pub carrier_once : (v : Vocabulary) (t a b : ℕ) → carrier ≡ logic.product a b → t < length v.types → sort v t ≡ carrier → ⊥
carrier_once v t a b e h i = let z : ◌≡◌ {A = ℕ} 0 1 = cc in absurd (omega arith)

pub product_known : (v : Vocabulary) (s t : ℕ) → s < length v.types → t < length v.types → (r : ℕ) → In r (parts (logic.product s t)) → r < length v.types
product_known v s t i j r (inl e) = subst (λ n. n < length v.types) (sym e) i
product_known v s t i j r (inr (inl e)) = subst (λ n. n < length v.types) (sym e) j
product_known v s t i j r (inr (inr e)) = absurd e

pub product_once : (v : Vocabulary) (s t : ℕ) → product_number v s t ≡ None → (k a b : ℕ) → logic.product s t ≡ logic.product a b → k < length v.types → sort v k ≡ logic.product s t → ⊥
product_once v s t e k a b i h j = subst (λ (o : Option ℕ). T (is_some o)) e (product_some v k s t j)

pub type_added : (v : Vocabulary) (s : Sort ℕ) → length v.types < 64 → add_type v s ≡ granted (length v.types) (with_type v s)
type_added v s h = cond-true (ltb (length v.types) 64) (granted (length v.types) (with_type v s)) (refused TypesFull v) (lt-ltb (length v.types) 64 h)
