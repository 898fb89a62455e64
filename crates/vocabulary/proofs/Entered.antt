-- What it takes to enter a record, and what is so of what was entered.
use Rattle.std.proofs.Common.{◌≡◌, ℕ, zero, suc, ◌<◌, ◌≤◌, Bool, true, false, cond, not, T, eqb, ltb, leb, ◌⊎◌, List, [], ◌∷◌, ◌++◌, map, length, get_or, Some, None, Ok, Option, sym, refl, ap, ◌∙◌, subst, ap₂, inl, inr, ⊎_elim, arith}
use Rattle.std.specs.Option.{ok_or, option_map}
use Rattle.std.proofs.lemmas.List.{get_or_append_left, get_or_push, get_or_past, length_push}
use Rattle.std.proofs.lemmas.Bool.{cases_lt, ltb-true, leb-true, false≢true, and_parts, and_from}
use Rattle.logic.specs.Formulas.{In, Shape, falsity, operands, through, Vocabulary, node, ask, WellFormed, weight, weight_layer, depth, depth_layer, predicate_shape}
use Rattle.logic.specs.Growing.{with_formula}
use Rattle.logic.specs.Deciding.{found, is_predicate, sorted, agreed, type_of, type_of_layer}
use Rattle.logic.proofs.Tests.{and_both, is_so}
use Rattle.logic.proofs.Deciding.{formed_since, tested}
use Rattle.logic.proofs.Entering.{enters_well}
use Rattle.logic.proofs.Adding.{kept_below, made_at_end, made_past, type_layer_kept}
use Rattle.formulas.specs.declared.kinds.Kind.{Kind}
use Rattle.formulas.specs.declared.kinds.Kind.TheVariants.{Variable, Pair, False, True, Not, And, Or, Implies, Iff, ForAll, Exists, Equal, Member}
use Rattle.formulas.specs.declared.kinds.Role.{Role}
use Rattle.formulas.specs.declared.kinds.Role.TheVariants.{Nothing, AVariable, Expression, Predicate, ASetName}
use Rattle.formulas.specs.declared.records.Record.{Record}
use Rattle.vocabulary.specs.declared.facts.Formula.{Formula}
use Rattle.formulas.specs.declared.refusals.Refusal.{Refusal}
use Rattle.formulas.specs.declared.refusals.Refusal.TheVariants.{UnknownKind, WrongOperand, TypesDisagree, TooLarge}
use Rattle.formulas.specs.Refusals.{kind_or_refusal}
use Rattle.formulas.specs.Kinds.{kind_numbered, first_role, second_role, is_formula}
use Rattle.formulas.specs.Records.{shape, shape_of, record_of, entry, blank, plain, same_record}
use Rattle.vocabulary.specs.Calls.{refused, fits, operands_fit, objection, small_enough, weight_with, depth_with, formula_number, enter_unless, enter_kind, enter_formula}
use Rattle.vocabulary.specs.Leaves.{Fitting}
use Rattle.vocabulary.specs.Lists.{stored_shape}
use Rattle.vocabulary.specs.Stored.{no_formula, formula_at, Plain, Typed, Weighed, Measured, Stored}
use Rattle.formulas.proofs.Shapes.{back, same_itself}

none_means : {X : Type 0} (b c d : Bool) (x y z : X) → cond b (cond c (cond d None (Some x)) (Some y)) (Some z) ≡ None → (b ≡ true) × (c ≡ true) × (d ≡ true)
none_means true true true x y z e = (refl, refl, refl)
none_means true true false x y z e = let n : ◌≡◌ {A = ℕ} 0 1 = cc in absurd (omega arith)
none_means true false d x y z e = let n : ◌≡◌ {A = ℕ} 0 1 = cc in absurd (omega arith)
none_means false c d x y z e = let n : ◌≡◌ {A = ℕ} 0 1 = cc in absurd (omega arith)

-- a search that finds nothing says so of each place
none_step : (b : Bool) (o : Option ℕ) → cond b (Some 0) (option_map suc o) ≡ None → (b ≡ false) × (o ≡ None)
none_step true o e = let z : ◌≡◌ {A = ℕ} 0 1 = cc in absurd (omega arith)
none_step false None e = (refl, refl)
none_step false (Some n) e = let z : ◌≡◌ {A = ℕ} 0 1 = cc in absurd (omega arith)

pub found_none_means : {A : Type 0} (p : A → Bool) (xs : List A) (d : A) → found p xs ≡ None → (k : ℕ) → k < length xs → p (get_or xs k d) ≡ false
found_none_means p [] d e k h = absurd (omega arith)
found_none_means p (x ∷ xs) d e zero h = (none_step (p x) (found p xs) e).0
found_none_means p (x ∷ xs) d e (suc k) h = found_none_means p xs d (none_step (p x) (found p xs) e).1 k (omega arith)

module _ (v : Vocabulary) where
  no_objection : (r : Record) → objection v r ≡ None → (operands_fit v r ≡ true) × (agreed v (shape_of r) ≡ true) × (small_enough v (shape_of r) ≡ true)
  no_objection r e = none_means (operands_fit v r) (agreed v (shape_of r)) (small_enough v (shape_of r)) TooLarge TypesDisagree WrongOperand e

  fits_below : (role : Role) (n : ℕ) → is_formula role ≡ true → fits v role n ≡ true → n < length v.formulas
  fits_below Nothing n f h = absurd (false≢true f)
  fits_below AVariable n f h = absurd (false≢true f)
  fits_below Expression n f h = ltb-true n (length v.formulas) (and_parts (ltb n (length v.formulas)) (not (predicate_shape (node v n))) h).0
  fits_below Predicate n f h = ltb-true n (length v.formulas) (and_parts (ltb n (length v.formulas)) (predicate_shape (node v n)) h).0
  fits_below ASetName n f h = absurd (false≢true f)

  fits_blank : (role : Role) (n : ℕ) → fits v role n ≡ true → blank role n ≡ true
  fits_blank Nothing n h = h
  fits_blank AVariable n h = refl
  fits_blank Expression n h = refl
  fits_blank Predicate n h = refl
  fits_blank ASetName n h = refl

  fits_both : (r : Record) → operands_fit v r ≡ true → (fits v (first_role r.kind) r.a ≡ true) × (fits v (second_role r.kind) r.b ≡ true)
  fits_both r h = and_parts (fits v (first_role r.kind) r.a) (fits v (second_role r.kind) r.b) h

  fits_plain : (r : Record) → operands_fit v r ≡ true → plain r ≡ true
  fits_plain r h = let p = fits_both r h in
      and_from (blank (first_role r.kind) r.a) (blank (second_role r.kind) r.b) (fits_blank (first_role r.kind) r.a p.0) (fits_blank (second_role r.kind) r.b p.1)

  which : (k : Kind) (a b m : ℕ) → In m (operands (shape k a b)) → ((is_formula (first_role k) ≡ true) × (m ≡ a)) ⊎ ((is_formula (second_role k) ≡ true) × (m ≡ b))
  which Variable a b m i = absurd i
  which Pair a b m (inl e) = inl (refl, e)
  which Pair a b m (inr (inl e)) = inr (refl, e)
  which Pair a b m (inr (inr e)) = absurd e
  which False a b m i = absurd i
  which True a b m i = absurd i
  which Not a b m (inl e) = inl (refl, e)
  which Not a b m (inr e) = absurd e
  which And a b m (inl e) = inl (refl, e)
  which And a b m (inr (inl e)) = inr (refl, e)
  which And a b m (inr (inr e)) = absurd e
  which Or a b m (inl e) = inl (refl, e)
  which Or a b m (inr (inl e)) = inr (refl, e)
  which Or a b m (inr (inr e)) = absurd e
  which Implies a b m (inl e) = inl (refl, e)
  which Implies a b m (inr (inl e)) = inr (refl, e)
  which Implies a b m (inr (inr e)) = absurd e
  which Iff a b m (inl e) = inl (refl, e)
  which Iff a b m (inr (inl e)) = inr (refl, e)
  which Iff a b m (inr (inr e)) = absurd e
  which ForAll a b m (inl e) = inr (refl, e)
  which ForAll a b m (inr e) = absurd e
  which Exists a b m (inl e) = inr (refl, e)
  which Exists a b m (inr e) = absurd e
  which Equal a b m (inl e) = inl (refl, e)
  which Equal a b m (inr (inl e)) = inr (refl, e)
  which Equal a b m (inr (inr e)) = absurd e
  which Member a b m (inl e) = inl (refl, e)
  which Member a b m (inr e) = absurd e

  fits_known : (r : Record) → operands_fit v r ≡ true → (m : ℕ) → In m (operands (shape_of r)) → m < length v.formulas
  fits_known r h m i = let p = fits_both r h in ⊎_elim
      (λ (f, e). subst (λ n. n < length v.formulas) (sym e) (fits_below (first_role r.kind) r.a f p.0))
      (λ (f, e). subst (λ n. n < length v.formulas) (sym e) (fits_below (second_role r.kind) r.b f p.1))
      (which r.kind r.a r.b m i)

  sorted_kind : (k : Kind) (a b : ℕ) → operands_fit v (entry k a b) ≡ true → T (sorted v (shape k a b))
  sorted_kind Variable a b h = is_so _ (and_parts (ltb a (length v.variables)) (eqb b 0) h).0
  sorted_kind Pair a b h = is_so _ h
  sorted_kind False a b h = tt
  sorted_kind True a b h = tt
  sorted_kind Not a b h = is_so _ (and_parts (is_predicate v a) (eqb b 0) h).0
  sorted_kind And a b h = is_so _ h
  sorted_kind Or a b h = is_so _ h
  sorted_kind Implies a b h = is_so _ h
  sorted_kind Iff a b h = is_so _ h
  sorted_kind ForAll a b h = is_so _ h
  sorted_kind Exists a b h = is_so _ h
  sorted_kind Equal a b h = is_so _ h
  sorted_kind Member a b h = is_so _ h

  -- nothing is entered twice
  fresh : (r : Record) → plain r ≡ true → formula_number v r ≡ None → (n : ℕ) → n < length v.formulas → node v n ≡ shape_of r → ⊥
  unfolding node
  fresh r p e n h i = false≢true (sym (found_none_means (λ s. same_record r (record_of s)) v.formulas falsity e n h)
      ∙ (ap (λ s. same_record r (record_of s)) i ∙ (ap (same_record r) (back r p) ∙ same_itself r)))

  pub well_entered : (r : Record) → WellFormed v → objection v r ≡ None → formula_number v r ≡ None → WellFormed (with_formula v (shape_of r))
  well_entered r wf e f = let o = no_objection r e in
      enters_well v (shape_of r) wf (fits_known r o.0)
      (formed_since v wf.formulas_fall (tested v wf) (shape_of r) (and_both (sorted v (shape_of r)) (agreed v (shape_of r)) (sorted_kind r.kind r.a r.b o.0) (is_so _ o.1)))
      (fresh r (fits_plain r o.0) f)

  small_means : (s : Shape ℕ) → small_enough v s ≡ true → (weight_with v s ≤ 4095) × (depth_with v s ≤ 64)
  small_means s h = let p = and_parts (leb (weight_with v s) 4095) (leb (depth_with v s) 64) h in
      (leb-true (weight_with v s) 4095 p.0, leb-true (depth_with v s) 64 p.1)

plain_push : (fs : List Formula) (f : Formula) → Plain fs → plain f.entered ≡ true → Plain (fs ++ f ∷ [])
plain_push fs f all new k = ⊎_elim old (λ h. ⊎_elim past last (cases_lt (length fs) k)) (cases_lt k (length fs))
  where
    plain_at : Formula → Bool
    plain_at g = plain g.entered

    old : k < length fs → plain_at (formula_at (fs ++ f ∷ []) k) ≡ true
    old h = ap plain_at (get_or_append_left fs (f ∷ []) no_formula k h) ∙ all k

    past : length fs < k → plain_at (formula_at (fs ++ f ∷ []) k) ≡ true
    past h = ap plain_at (get_or_past (fs ++ f ∷ []) k no_formula (omega (arith, length_push fs f)))

    last : k ≤ length fs → plain_at (formula_at (fs ++ f ∷ []) k) ≡ true
    last h = elim (cases_lt k (length fs)) [ inl l ↦ old l | inr g ↦ ap plain_at (get_or_push fs f no_formula k (omega arith)) ∙ new ]

-- what is stored stays right when a formula is entered
module _ (v : Vocabulary) (s : Shape ℕ) (wf : WellFormed v) (wf' : WellFormed (with_formula v s)) (known : (m : ℕ) → In m (operands s) → m < length v.formulas)
    (fs : List Formula) (x : Formula) (len : length fs ≡ length v.formulas)
    (get : Formula → ℕ) (layer layer' : Shape ℕ → ℕ) (same : (r : Shape ℕ) → layer' r ≡ layer r) where
  abbrev Right : ℕ → Type 0
  Right k = get (formula_at (fs ++ x ∷ []) k) ≡ ask (with_formula v s) 0 (λ _. layer') k

  reckoned : get no_formula ≡ layer falsity → ((k : ℕ) → get (formula_at fs k) ≡ ask v 0 (λ _. layer) k) → get x ≡ layer (through (ask v 0 (λ _. layer)) s) →
      (k : ℕ) → get (formula_at (fs ++ x ∷ []) k) ≡ ask (with_formula v s) 0 (λ _. layer') k
  reckoned none all new k = elim (cases_lt k (length fs)) [ inl h ↦ old h | inr h ↦ elim (cases_lt (length fs) k) [ inl g ↦ past g | inr g ↦ last (omega arith) ] ]
    where
      old : k < length fs → Right k
      old h = ap get (get_or_append_left fs (x ∷ []) no_formula k h) ∙ (all k ∙ sym (kept_below v s wf wf' known 0 layer layer' same k (omega arith)))

      past : length fs < k → Right k
      past h = ap get (get_or_past (fs ++ x ∷ []) k no_formula (omega (arith, length_push fs x)))
          ∙ (none ∙ (sym (same falsity) ∙ sym (made_past (with_formula v s) wf'.formulas_fall 0 layer' k (omega (arith, length_push v.formulas s)))))

      last : length fs ≡ k → Right k
      last e = ap get (get_or_push fs x no_formula k e)
          ∙ (new ∙ (sym (made_at_end v s wf wf' known 0 layer layer' same) ∙ ap (ask (with_formula v s) 0 (λ _. layer')) (sym len ∙ e)))

  bounded : (limit : ℕ) → layer falsity ≤ limit → ((k : ℕ) → ask v 0 (λ _. layer) k ≤ limit) → layer (through (ask v 0 (λ _. layer)) s) ≤ limit →
      (k : ℕ) → ask (with_formula v s) 0 (λ _. layer') k ≤ limit
  bounded limit none all new k =
      elim (cases_lt k (length v.formulas)) [ inl h ↦ old h | inr h ↦ elim (cases_lt (length v.formulas) k) [ inl g ↦ past g | inr g ↦ last (omega arith) ] ]
    where
      old : k < length v.formulas → ask (with_formula v s) 0 (λ _. layer') k ≤ limit
      old h = subst (λ n. n ≤ limit) (sym (kept_below v s wf wf' known 0 layer layer' same k h)) (all k)

      past : length v.formulas < k → ask (with_formula v s) 0 (λ _. layer') k ≤ limit
      past h = subst (λ n. n ≤ limit) (sym (made_past (with_formula v s) wf'.formulas_fall 0 layer' k (omega (arith, length_push v.formulas s)) ∙ same falsity)) none

      last : length v.formulas ≡ k → ask (with_formula v s) 0 (λ _. layer') k ≤ limit
      last e = subst (λ n. ask (with_formula v s) 0 (λ _. layer') n ≤ limit) e (subst (λ n. n ≤ limit) (sym (made_at_end v s wf wf' known 0 layer layer' same)) new)

module _ (v : Vocabulary) (s : Shape ℕ) (wf : WellFormed v) (wf' : WellFormed (with_formula v s)) (known : (m : ℕ) → In m (operands s) → m < length v.formulas)
    (fs : List Formula) (x : Formula) (len : length fs ≡ length v.formulas) where
  typed_push : Typed v fs → x.facts.ty ≡ type_of_layer v (through (type_of v) s) → Typed (with_formula v s) (fs ++ x ∷ [])
  unfolding type_of
  typed_push all new = reckoned v s wf wf' known fs x len (λ f. f.facts.ty) (type_of_layer v) (type_of_layer (with_formula v s)) (type_layer_kept v s) refl all new

  weighed_push : Weighed v fs → x.facts.weight ≡ weight_with v s → weight_with v s ≤ 4095 → Weighed (with_formula v s) (fs ++ x ∷ [])
  unfolding weight
  weighed_push all new small k = (
    reckoned v s wf wf' known fs x len (λ f. f.facts.weight) weight_layer weight_layer (λ r. refl) refl (λ j. (all j).0) new k,
    bounded v s wf wf' known fs x len (λ f. f.facts.weight) weight_layer weight_layer (λ r. refl) 4095 (omega arith) (λ j. (all j).1) small k,
  )

  measured_push : Measured v fs → x.facts.depth ≡ depth_with v s → depth_with v s ≤ 64 → Measured (with_formula v s) (fs ++ x ∷ [])
  unfolding depth
  measured_push all new small k = (
    reckoned v s wf wf' known fs x len (λ f. f.facts.depth) depth_layer depth_layer (λ r. refl) refl (λ j. (all j).0) new k,
    bounded v s wf wf' known fs x len (λ f. f.facts.depth) depth_layer depth_layer (λ r. refl) 64 (omega arith) (λ j. (all j).1) small k,
  )

-- what is kept when a record is entered
pub stored_push : (v : Vocabulary) (x : Formula) (fs : List Formula) → length fs ≡ length v.formulas → Stored v fs
    → objection v x.entered ≡ None → formula_number v x.entered ≡ None → Fitting v x.entered x.facts → Stored (with_formula v (stored_shape x)) (fs ++ x ∷ [])
stored_push v x fs len h allowed new fitting =
    let r = x.entered in
    let s = shape_of r in
    let wf = h.well_formed in
    let wf' = well_entered v r wf allowed new in
    let o = no_objection v r allowed in
    let small = small_means v s o.2 in
    let known = fits_known v r o.0 in
    record {
      well_formed = wf';
      plain = plain_push fs x h.plain (fits_plain v r o.0);
      typed = typed_push v s wf wf' known fs x len h.typed fitting.ty;
      weighed = weighed_push v s wf wf' known fs x len h.weighed fitting.weight small.0;
      measured = measured_push v s wf wf' known fs x len h.measured fitting.depth small.1;
    }

-- what stands against a record is what its entering answers
pub enter_refused : (v : Vocabulary) (k a b : ℕ) (kind : Kind) (e : Refusal) → Ok kind ≡ kind_or_refusal k → objection v (entry kind a b) ≡ Some e → enter_formula v k a b ≡ refused e v
enter_refused v k a b kind e h o = go (kind_numbered k) h
  where
    go : (found : Option Kind) → Ok kind ≡ ok_or found UnknownKind → enter_kind v a b found ≡ refused e v
    go None h = let z : ◌≡◌ {A = ℕ} 0 1 = cc in absurd (omega arith)
    go (Some j) h = let i : j ≡ kind = cc in ap (λ (l : Kind). enter_unless v (entry l a b) (objection v (entry l a b))) i ∙ ap (enter_unless v (entry kind a b)) o

-- a search among the records is a search among the shapes
pub found_record : (r : Record) (fs : List Formula) → Plain fs → found (λ (f : Formula). same_record r f.entered) fs ≡ found (λ (s : Shape ℕ). same_record r (record_of s)) (map stored_shape fs)
found_record r [] all = refl
found_record r (x ∷ xs) all =
    ap₂ (λ (b : Bool) (o : Option ℕ). cond b (Some 0) (option_map suc o)) (sym (ap (same_record r) (back x.entered (all 0)))) (found_record r xs (λ k. all (suc k)))
