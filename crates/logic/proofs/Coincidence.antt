-- Two lemmas on meanings: only free variables count; a formula with e for x means what the formula means with x at e's value.
use Rattle.std.proofs.Common.{◌≡◌, ℕ, Bool, true, false, cond, not, T, eqb, sym, refl, ap, ◌∙◌, subst, ap₂, inl, inr, eqb→eq, T_not}
use mathlib.Core.Path.{fun_ext}
use lib.Dec.{eqb_refl, not_T}
use Rattle.logic.specs.Formulas.{In, Shape, variable, pair, falsity, truth, negation, join, bind, equal, member, operands, through, Vocabulary, node, variable_type, free, free_layer, IsReplaced, Substituted, SubstitutedLayer, Falling}
use Rattle.logic.specs.Meanings.{Value, ordered_pair, truth_value, Structure, holds, same, connect, quantify, values, assign, meaning, meaning_layer, BoundIndependent, Substitution}
use Rattle.logic.proofs.Tests.{or_left, or_right, and_both, and_left}
use Rattle.logic.proofs.Falling.{asked, by_operands}

-- f and g give x the same value
assigned : (f g : ℕ → Value) (y : ℕ) (u : Value) (x : ℕ) → (T (not (eqb x y)) → f x ≡ g x) → assign f y u x ≡ assign g y u x
unfolding assign
assigned f g y u x = go (eqb x y)
  where
    go : (b : Bool) → (T (not b) → f x ≡ g x) → cond b u (f x) ≡ cond b u (g x)
    go true h = refl
    go false h = h tt

pub assign_other : (f : ℕ → Value) (x : ℕ) (u : Value) (y : ℕ) → T (not (eqb y x)) → assign f x u y ≡ f y
unfolding assign
assign_other f x u y = go (eqb y x)
  where
    go : (b : Bool) → T (not b) → cond b u (f y) ≡ f y
    go true h = absurd h
    go false h = refl

pub assign_self : (f : ℕ → Value) (x : ℕ) (u : Value) → assign f x u x ≡ u
unfolding assign
assign_self f x u = go (eqb x x) (eqb_refl x)
  where
    go : (b : Bool) → T b → cond b u (f x) ≡ u
    go true h = refl
    go false h = absurd h

-- x and y are assigned in either order
swapped : (f : ℕ → Value) (x y : ℕ) (r u : Value) → T (not (eqb x y)) → assign (assign f y u) x r ≡ assign (assign f x r) y u
unfolding assign
swapped f x y r u n = fun_ext λ z. go (f z) (eqb z x) (eqb z y) λ s t. T_not _ n (subst (λ k. T (eqb k y)) (eqb→eq z x s) t)
  where
    go : (d : Value) (a b : Bool) → (T a → T b → ⊥) → cond a r (cond b u d) ≡ cond b u (cond a r d)
    go d true true h = absurd (h tt tt)
    go d true false h = refl
    go d false true h = refl
    go d false false h = refl

module _ (v : Vocabulary) (falling : Falling v) where
  pub free_is : (x n : ℕ) → free v x n ≡ free_layer x (through (free v x) (node v n))
  unfolding free
  free_is x n = asked v falling false (λ _. free_layer x) n

  pub substituted_is : (x e p : ℕ) → Substituted v x e p ≡ SubstitutedLayer v x e p (through (Substituted v x e) (node v p))
  unfolding Substituted
  substituted_is x e p = asked v falling (λ _. ⊥) (SubstitutedLayer v x e) p

  module _ (w : Structure) where
    pub meaning_is : (n : ℕ) → meaning v w n ≡ meaning_layer v w (through (meaning v w) (node v n))
    unfolding meaning
    meaning_is n = asked v falling (λ _. Value.thing 0) (λ _. meaning_layer v w) n

    -- f and g agree on what is free in n
    abbrev pub Agree : (ℕ → Value) → (ℕ → Value) → ℕ → Type 0
    Agree f g n = (x : ℕ) → T (free v x n) → f x ≡ g x

    -- n means the same wherever its free variables have the same values
    abbrev pub Settled : ℕ → Type 0
    Settled n = (f g : ℕ → Value) → Agree f g n → meaning v w n f ≡ meaning v w n g

    settled_layer : (s : Shape ℕ) → ((m : ℕ) → In m (operands s) → Settled m) → (f g : ℕ → Value) →
        ((x : ℕ) → T (free_layer x (through (free v x) s)) → f x ≡ g x) →
        meaning_layer v w (through (meaning v w) s) f ≡ meaning_layer v w (through (meaning v w) s) g
    settled_layer (variable x) ih f g h = h x (eqb_refl x)
    settled_layer (pair a b) ih f g h =
        ap₂ ordered_pair (ih a (inl refl) f g λ x t. h x (or_left _ _ t)) (ih b (inr (inl refl)) f g λ x t. h x (or_right _ _ t))
    settled_layer falsity ih f g h = refl
    settled_layer truth ih f g h = refl
    settled_layer (negation a) ih f g h = ap (λ r. truth_value (not (holds r))) (ih a (inl refl) f g h)
    settled_layer (join c a b) ih f g h =
        ap₂ (λ r s. truth_value (connect c (holds r) (holds s))) (ih a (inl refl) f g λ x t. h x (or_left _ _ t)) (ih b (inr (inl refl)) f g λ x t. h x (or_right _ _ t))
    settled_layer (bind q y b) ih f g h =
        ap (λ r. truth_value (quantify q r (values v w (variable_type v y)))) (fun_ext λ u. ap holds (ih b (inl refl) (assign f y u) (assign g y u) λ x t. assigned f g y u x λ n. h x (and_both _ _ n t)))
    settled_layer (equal a b) ih f g h =
        ap₂ (λ r s. truth_value (same r s)) (ih a (inl refl) f g λ x t. h x (or_left _ _ t)) (ih b (inr (inl refl)) f g λ x t. h x (or_right _ _ t))
    settled_layer (member a s) ih f g h = ap (λ r. truth_value (w.contains s r)) (ih a (inl refl) f g h)

    pub settled : (n : ℕ) → Settled n
    settled = by_operands v falling Settled λ n ih f g h.
        rw meaning_is (settled_layer (node v n) ih f g λ x t. h x (rw free_is t))

    -- a variable that is not free in n makes no difference to n
    pub untouched : (x n : ℕ) (f : ℕ → Value) (u : Value) → T (not (free v x n)) → meaning v w n (assign f x u) ≡ meaning v w n f
    untouched x n f u h = settled n (assign f x u) f λ y t.
        assign_other f x u y (not_T _ λ e. T_not _ h (subst (λ z. T (free v z n)) (eqb→eq y x e) t))

    pub reads : {s : Shape ℕ} (n : ℕ) (f : ℕ → Value) → node v n ≡ s → meaning v w n f ≡ meaning_layer v w (through (meaning v w) s) f
    reads n f e = rw (meaning_is, e)

    -- each formula that is p with e for x means what p means with x at e's value
    abbrev pub Kept : ℕ → ℕ → ℕ → Type 0
    Kept x e p = (q : ℕ) (f : ℕ → Value) → Substituted v x e p q → meaning v w q f ≡ meaning v w p (assign f x (meaning v w e f))

    kept_layer : (x e q : ℕ) (s : Shape ℕ) → ((m : ℕ) → In m (operands s) → Kept x e m) → (f : ℕ → Value) →
        T (free_layer x (through (free v x) s)) → IsReplaced v e (through (Substituted v x e) s) q →
        meaning v w q f ≡ meaning_layer v w (through (meaning v w) s) (assign f x (meaning v w e f))
    kept_layer x e q (variable y) ih f t h = rw (h, ← eqb→eq x y t) (sym (assign_self f x (meaning v w e f)))
    kept_layer x e q (pair a b) ih f t (c, d, i, j, k) =
        reads q f i ∙ ap₂ ordered_pair (ih a (inl refl) c f j) (ih b (inr (inl refl)) d f k)
    kept_layer x e q falsity ih f t h = absurd t
    kept_layer x e q truth ih f t h = absurd t
    kept_layer x e q (negation a) ih f t (c, i, j) = reads q f i ∙ ap (λ r. truth_value (not (holds r))) (ih a (inl refl) c f j)
    kept_layer x e q (join k a b) ih f t (c, d, i, j, l) =
        reads q f i ∙ ap₂ (λ r s. truth_value (connect k (holds r) (holds s))) (ih a (inl refl) c f j) (ih b (inr (inl refl)) d f l)
    kept_layer x e q (bind k y b) ih f t (c, i, n, j) =
        reads q f i ∙ ap (λ r. truth_value (quantify k r (values v w (variable_type v y)))) (fun_ext λ u. ap holds
        (ih b (inl refl) c (assign f y u) j ∙ ap (meaning v w b)
        (ap (assign (assign f y u) x) (untouched y e f u n) ∙ swapped f x y (meaning v w e f) u (and_left _ _ t))))
    kept_layer x e q (equal a b) ih f t (c, d, i, j, k) =
        reads q f i ∙ ap₂ (λ r s. truth_value (same r s)) (ih a (inl refl) c f j) (ih b (inr (inl refl)) d f k)
    kept_layer x e q (member a s) ih f t (c, i, j) = reads q f i ∙ ap (λ r. truth_value (w.contains s r)) (ih a (inl refl) c f j)

    pub kept : (x e p : ℕ) → Kept x e p
    kept x e = by_operands v falling (Kept x e) λ p ih q f h. go p ih q f (subst (λ r. r q) (substituted_is x e p) h)
      where
        go : (p : ℕ) → ((m : ℕ) → In m (operands (node v p)) → Kept x e m) → (q : ℕ) (f : ℕ → Value) →
            SubstitutedLayer v x e p (through (Substituted v x e) (node v p)) q → meaning v w q f ≡ meaning v w p (assign f x (meaning v w e f))
        go p ih q f (inl (n, i)) = rw i (sym (untouched x p f (meaning v w e f) n))
        go p ih q f (inr (t, h)) = kept_layer x e q (node v p) ih f (rw free_is at t) h ∙ sym (reads p (assign f x (meaning v w e f)) refl)

pub bound_independent : BoundIndependent
bound_independent v wf x n e w f u = untouched v wf.formulas_fall w x n f u (rw e tt)

pub substitution_means : Substitution
substitution_means v wf q x e p (_, _, _, h) w f = kept v wf.formulas_fall w x e p q f h
