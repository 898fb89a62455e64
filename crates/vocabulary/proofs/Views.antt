-- The lists in memory and the vocabulary that they stand for.
use Rattle.std.proofs.Common.{◌≡◌, ℕ, suc, ◌≤◌, Bool, cond, List, [], ◌∷◌, ◌++◌, map, Some, vec_items, Option, sym, refl, ap, ◌∙◌, subst}
use mathlib.Core.List.{map-append}
use lib.ListN.{get_or-map}
use Rattle.std.specs.Option.{option_map}
use Rattle.logic.specs.Formulas.{Shape, Sort, Vocabulary, node, WellFormed, weight, depth}
use Rattle.logic.specs.Growing.{with_type, with_formula}
use Rattle.logic.specs.Deciding.{found, type_of, Sure}
use Rattle.logic.proofs.Restoring.{sure_same, sure_most, sure_well_formed}
use Rattle.formulas.specs.Records.{sort_of, plain, record_of}
use Rattle.formulas.proofs.Shapes.{back}
use Rattle.vocabulary.specs.declared.facts.Facts.{Facts}
use Rattle.vocabulary.specs.declared.facts.Formula.{Formula}
use Rattle.vocabulary.specs.Stored.{no_formula, formula_at, Stored}
use Rattle.formulas.specs.declared.records.TypeDef.{TypeDef}
use Rattle.vocabulary.specs.declared.store.Vocabulary as store
use Rattle.vocabulary.specs.Lists.{view, stored_shape}
use Rattle.vocabulary.specs.View.{model}

-- what is kept as far as tests tell is so
restored : (v : Vocabulary) (fs : List Formula) → Sure (Stored v fs) → Stored v fs
restored v fs sure = record {
  well_formed = sure_well_formed v λ b k. sure b λ s. k s.well_formed;
  plain = λ k. sure (plain (formula_at fs k).entered) λ s. s.plain k;
  typed = λ k. sure_same sure (formula_at fs k).facts.ty (type_of v k) λ s. s.typed k;
  weighed = λ k. (sure_same sure (formula_at fs k).facts.weight (weight v k) λ s. (s.weighed k).0, sure_most sure (weight v k) 4095 λ s. (s.weighed k).1);
  measured = λ k. (sure_same sure (formula_at fs k).facts.depth (depth v k) λ s. (s.measured k).0, sure_most sure (depth v k) 64 λ s. (s.measured k).1);
}

pub stored : (v : store.Vocabulary) → Stored (model v) (vec_items v.formulas)
stored v = restored (model v) (vec_items v.formulas) v.stored

pub well_formed : (v : store.Vocabulary) → WellFormed (model v)
well_formed v = (stored v).well_formed

-- what is stored of formula n is what the definitions say
pub facts_read : (v : store.Vocabulary) (n : ℕ) (f : Facts) → f ≡ (formula_at (vec_items v.formulas) n).facts →
    (f.ty ≡ type_of (model v) n) × (f.weight ≡ weight (model v) n) × (f.depth ≡ depth (model v) n) × (f.weight ≤ 4095) × (f.depth ≤ 64)
facts_read v n f e =
    let s = stored v in
    let w = ap (λ (g : Facts). g.weight) e ∙ (s.weighed n).0 in
    let d = ap (λ (g : Facts). g.depth) e ∙ (s.measured n).0 in
    (ap (λ (g : Facts). g.ty) e ∙ s.typed n, w, d, subst (λ k. k ≤ 4095) (sym w) (s.weighed n).1, subst (λ k. k ≤ 64) (sym d) (s.measured n).1)

pub found_map : {A B : Type 0} (f : A → B) (p : B → Bool) (xs : List A) → found p (map f xs) ≡ found (λ x. p (f x)) xs
found_map f p [] = refl
found_map f p (x ∷ xs) = ap (λ (o : Option ℕ). cond (p (f x)) (Some 0) (option_map suc o)) (found_map f p xs)

node_view : (ts : List TypeDef) (vs ss : List ℕ) (fs : List Formula) (n : ℕ) → node (view ts vs ss fs) n ≡ stored_shape (formula_at fs n)
unfolding node
node_view ts vs ss fs n = get_or-map stored_shape fs n no_formula

-- the record in memory is that of the formula; past the end, that of ⊥
pub record_read : (v : store.Vocabulary) (n : ℕ) → (formula_at (vec_items v.formulas) n).entered ≡ record_of (node (model v) n)
record_read v n =
    let fs = vec_items v.formulas in
    sym (ap record_of (node_view (vec_items v.types) (vec_items v.variables) (vec_items v.set_names) fs n) ∙ back (formula_at fs n).entered ((stored v).plain n))

pub view_with_formula : (ts : List TypeDef) (vs ss : List ℕ) (fs : List Formula) (f : Formula) → view ts vs ss (fs ++ f ∷ []) ≡ with_formula (view ts vs ss fs) (stored_shape f)
view_with_formula ts vs ss fs f =
    ap (λ (xs : List (Shape ℕ)). record { types = map sort_of ts; variables = vs; sets = ss; formulas = xs }) (map-append stored_shape fs (f ∷ []))

pub view_with_type : (ts : List TypeDef) (vs ss : List ℕ) (fs : List Formula) (d : TypeDef) → view (ts ++ d ∷ []) vs ss fs ≡ with_type (view ts vs ss fs) (sort_of d)
view_with_type ts vs ss fs d =
    ap (λ (xs : List (Sort ℕ)). record { types = xs; variables = vs; sets = ss; formulas = map stored_shape fs }) (map-append sort_of ts (d ∷ []))
