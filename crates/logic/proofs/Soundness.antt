-- Every rule is sound.
use Rattle.logic.specs.declared.rule.Rule.{Rule}
use Rattle.std.proofs.Common.{◌≡◌, ℕ, zero, suc, Bool, true, false, not, ◌||◌, T, ◌↔◌, List, [], ◌∷◌, sym, refl, ap, subst, inl, inr, ⊎_elim, T_not}
use mathlib.Core.Bool.{decide, Bool-discrete}
use native.Mathlib.Decide.{ℕ_discrete}
use lib.Dec.{not_T}
use Rattle.std.specs.List.{AllZip, AllByRecursion}
use Rattle.logic.specs.Formulas.{In, Shape, pair, equal, through, Sort, carrier, product, parts, across, Vocabulary, node, sort, variable_type, IsSubstitution, WellFormed}
use Rattle.logic.specs.Meanings.{Value, thing, ordered_pair, things, values_layer, Value-discrete, Structure, values, assign, holds, meaning, meaning_layer, every, some, Interpretation, Sequent, true_in, refuted, Valid}
use Rattle.logic.specs.Rules.{Absent, Form, hyp, mon, cut, false_l, false_r, not_l, not_r, and_l, and_r, or_l, or_r, imp_l, imp_r, true_r, eqv_l, eqv_r, all_l, all_r, xst_l, xst_r, eql, eq_lr, eq_rl, pair_l, pair_r, Made, Sound, Consistent}
use Rattle.logic.proofs.Tests.{or_left, or_right, and_both, and_left, and_right}
use Rattle.logic.proofs.Coincidence.{reads, kept, untouched}
use Rattle.logic.proofs.Typing.{within, assign_typed, values_is, in_pairs}
use Rattle.logic.proofs.Falling.{by_parts}

either : (a b c : Bool) → T (a || b) → (T a → T c) → (T b → T c) → T c
either true b c t f g = f tt
either false b c t f g = g t

pub contrary : (a b : Bool) → (T (not b) → T a) → T (not a) → T b
contrary true b f t = absurd t
contrary false true f t = tt
contrary false false f t = f tt

or_else : (a b : Bool) → (T (not a) → T b) → T (a || b)
or_else true b f = tt
or_else false b f = f tt

imply : (a b : Bool) → (T a → T b) → T (not a || b)
imply true b f = f tt
imply false b f = tt

apply : (a b : Bool) → T (not a || b) → T a → T b
apply true b f t = f
apply false b f t = absurd t

-- tests of lists
module _ (p : Value → Bool) where
  every_at : (xs : List Value) (u : Value) → T (every p xs) → In u xs → T (p u)
  every_at [] u t i = absurd i
  every_at (x ∷ xs) u t (inl e) = rw e (and_left _ _ t)
  every_at (x ∷ xs) u t (inr i) = every_at xs u (and_right _ _ t) i

  every_from : (xs : List Value) → ((u : Value) → In u xs → T (p u)) → T (every p xs)
  every_from [] h = tt
  every_from (x ∷ xs) h = and_both _ _ (h x (inl refl)) (every_from xs λ u i. h u (inr i))

  some_from : (xs : List Value) (u : Value) → In u xs → T (p u) → T (some p xs)
  some_from [] u i t = absurd i
  some_from (x ∷ xs) u (inl e) t = or_left _ _ (rw e at t)
  some_from (x ∷ xs) u (inr i) t = or_right _ _ (some_from xs u i t)

  some_at : (c : Bool) (xs : List Value) → T (some p xs) → ((u : Value) → In u xs → T (p u) → T c) → T c
  some_at c [] t h = absurd t
  some_at c (x ∷ xs) t h = either _ _ c t (h x (inl refl)) λ r. some_at c xs r λ u i. h u (inr i)

module _ (p : ℕ → Bool) where
  abbrev pub True : List ℕ → Type 0
  True = AllByRecursion (λ n. T (p n))

  pub true_at : (ns : List ℕ) (n : ℕ) → True ns → In n ns → T (p n)
  true_at [] n t i = absurd i
  true_at (m ∷ ns) n t (inl e) = rw e t.0
  true_at (m ∷ ns) n t (inr i) = true_at ns n t.1 i

  pub true_from : (ns : List ℕ) → ((n : ℕ) → In n ns → T (p n)) → True ns
  true_from [] h = tt
  true_from (m ∷ ns) h = (h m (inl refl), true_from ns λ n i. h n (inr i))

  -- a sequent holds exactly when its goal is true if all hypotheses are
  holds_from : (g : Bool) (ns : List ℕ) → (True ns → T g) → T (g || refuted p ns)
  holds_from true ns h = tt
  holds_from false [] h = h tt
  holds_from false (n ∷ ns) h = imply (p n) _ λ t. holds_from false ns λ s. h (t, s)

  holds_at : (g : Bool) (ns : List ℕ) → T (g || refuted p ns) → True ns → T g
  holds_at true ns t s = tt
  holds_at false [] t s = t
  holds_at false (n ∷ ns) t s = holds_at false ns (apply (p n) _ t s.0) s.1

decided : {P : Type 0} (d : Dec P) → T (decide d) ↔ P
unfolding decide
decided (yes p) = (λ _. p, λ _. tt)
decided (no n) = (λ t. absurd t, n)

module _ (v : Vocabulary) (wf : WellFormed v) (w : Structure) where
  opens : {s : Shape ℕ} (n : ℕ) (f : ℕ → Value) → node v n ≡ s → T (true_in v w f n) → T (holds (meaning_layer v w (through (meaning v w) s) f))
  opens n f e t = subst (λ r. T (holds r)) (reads v wf.formulas_fall w n f e) t

  shuts : {s : Shape ℕ} (n : ℕ) (f : ℕ → Value) → node v n ≡ s → T (holds (meaning_layer v w (through (meaning v w) s) f)) → T (true_in v w f n)
  shuts n f e t = subst (λ r. T (holds r)) (sym (reads v wf.formulas_fall w n f e)) t

  equals : (n x y : ℕ) (f : ℕ → Value) → node v n ≡ equal x y → T (true_in v w f n) ↔ (meaning v w x f ≡ meaning v w y f)
  equals n x y f e = let d = decided (Value-discrete ℕ_discrete Bool-discrete (meaning v w x f) (meaning v w y f)) in
      (λ t. d.0 (opens n f e t), λ p. shuts n f e (d.1 p))

  paired : (n m x y x' y' : ℕ) (f : ℕ → Value) → node v n ≡ pair x y → node v m ≡ pair x' y' →
      (meaning v w n f ≡ meaning v w m f) ↔ ((meaning v w x f ≡ meaning v w x' f) × (meaning v w y f ≡ meaning v w y' f))
  paired n m x y x' y' f i j = let p = reads v wf.formulas_fall w n f i in let q = reads v wf.formulas_fall w m f j in
      (λ d. (cc, cc), λ d. cc)

  -- where H is true the part is as a sequent
  abbrev Follows : List ℕ → Sequent → Type 0
  Follows H s = (f : ℕ → Value) → Interpretation v w f → True (true_in v w f) H → True (true_in v w f) s.hypotheses → T (true_in v w f s.goal)

  -- true formulas stay true where a variable changes that is free in none of them
  stays : (x : ℕ) (f : ℕ → Value) (u : Value) (ns : List ℕ) → Absent v x ns → True (true_in v w f) ns → True (true_in v w (assign f x u)) ns
  stays x f u [] h t = tt
  stays x f u (n ∷ ns) h t = (rw (untouched v wf.formulas_fall w x n f u h.0) t.0, stays x f u ns h.1 t.1)

  -- [x:=e]p is true where p is with x at e's value
  with_value : (q x e p : ℕ) (f : ℕ → Value) → IsSubstitution v q x e p → true_in v w f q ≡ true_in v w (assign f x (meaning v w e f)) p
  with_value q x e p f i = ap holds (kept v wf.formulas_fall w x e p q f i.3)

  form_sound : (H : List ℕ) (a b c : ℕ) {r : Rule} {fresh : List ℕ} {above : List Sequent} {below : Sequent} →
      Form v a b c r fresh above below → AllByRecursion (λ x. Absent v x H) fresh → AllByRecursion (Follows H) above → Follows H below
  form_sound H a b c hyp z k f φ h t = t.0
  form_sound H a b c mon z k f φ h t = k.0 f φ h tt
  form_sound H a b c cut z k f φ h t = k.1.0 f φ h (k.0 f φ h tt, tt)
  form_sound H a b c (false_l e) z k f φ h t = absurd (opens _ f e.1 t.0)
  form_sound H a b c (false_r e i) z k f φ h t = absurd (T_not _ (opens _ f e (k.1.0 f φ h tt)) (k.0 f φ h tt))
  form_sound H a b c (not_l e i) z k f φ h t = contrary _ _ (λ s. k.0 f φ h (shuts _ f i s, tt)) (opens _ f e t.0)
  form_sound H a b c (not_r e i) z k f φ h t = shuts _ f e (not_T _ λ s. opens _ f i.1 (k.0 f φ h (s, tt)))
  form_sound H a b c (and_l e) z k f φ h t = let s = opens _ f e t.0 in k.0 f φ h (and_left _ _ s, (and_right _ _ s, tt))
  form_sound H a b c (and_r e) z k f φ h t = shuts _ f e (and_both _ _ (k.0 f φ h tt) (k.1.0 f φ h tt))
  form_sound H a b c (or_l e) z k f φ h t = either _ _ _ (opens _ f e t.0) (λ s. k.0 f φ h (s, tt)) (λ s. k.1.0 f φ h (s, tt))
  form_sound H a b c (or_r e i) z k f φ h t = shuts _ f e (or_else _ _ λ s. k.0 f φ h (shuts _ f i s, tt))
  form_sound H a b c (imp_l e) z k f φ h t = k.0 f φ h (t.0, (apply _ _ (opens _ f e t.1.0) t.0, tt))
  form_sound H a b c (imp_r e) z k f φ h t = shuts _ f e (imply _ _ λ s. k.0 f φ h (s, tt))
  form_sound H a b c (true_r e) z k f φ h t = shuts _ f e tt
  form_sound H a b c (eqv_l e i j) z k f φ h t = let s = opens _ f e t.0 in k.0 f φ h (shuts _ f i (and_left _ _ s), (shuts _ f j (and_right _ _ s), tt))
  form_sound H a b c (eqv_r e i j) z k f φ h t = shuts _ f e (and_both _ _ (opens _ f i (k.0 f φ h tt)) (opens _ f j (k.1.0 f φ h tt)))
  form_sound H a b c (all_l {p = p} {x = x} e i) z k f φ h t =
      k.0 f φ h (t.0, (rw (with_value c x b p f i) (every_at _ _ _ (opens _ f e t.0) (within v wf w f φ b (variable_type v x) i.2)), tt))
  form_sound H a b c (all_r {x = x} e) z k f φ h t =
      shuts _ f e (every_from _ _ λ u i. k.0 (assign f x u) (assign_typed v wf w f x u φ i) (stays x f u H z.0 h) tt)
  form_sound H a b c (xst_l {q = q} {x = x} e n) z k f φ h t =
      some_at _ _ _ (opens _ f e t.0) λ u i s. rw (untouched v wf.formulas_fall w x q f u n) at
      (k.0 (assign f x u) (assign_typed v wf w f x u φ i) (stays x f u H z.0 h) (s, tt))
  form_sound H a b c (xst_r {m = m} {p = p} {x = x} e i) z k f φ h t =
      shuts _ f e (some_from _ _ _ (within v wf w f φ b (variable_type v x) i.2) (rw (with_value m x b p f i) at (k.0 f φ h tt)))
  form_sound H a b c (eql e) z k f φ h t = (equals _ _ _ f e).1 refl
  form_sound H a b c (eq_lr {p = p} {q = q} {e = l} {f = r} _ e i j) z k f φ h t =
      rw (with_value q b l c f j, (equals a l r f e).0 t.0, ← with_value p b r c f i) (k.0 f φ h t)
  form_sound H a b c (eq_rl {p = p} {q = q} {e = l} {f = r} _ e i j) z k f φ h t =
      rw (with_value q b r c f j, ← (equals a l r f e).0 t.0, ← with_value p b l c f i) (k.0 f φ h t)
  form_sound H a b c (pair_l e i j l o) z k f φ h t =
      let d = (paired _ _ _ _ _ _ f i j).0 ((equals _ _ _ f e).0 t.0) in
      k.0 f φ h ((equals _ _ _ f l).1 d.0, ((equals _ _ _ f o).1 d.1, tt))
  form_sound H a b c (pair_r e i j l o) z k f φ h t =
      (equals _ _ _ f e).1 ((paired _ _ _ _ _ _ f i j).1 ((equals _ _ _ f l).0 (k.0 f φ h tt), (equals _ _ _ f o).0 (k.1.0 f φ h tt)))

  follows : (H : List ℕ) (part s : Sequent) → Made H part s → Valid v s → Follows H part
  follows H part s (e, m) valid f φ h t = rw e at (holds_at (true_in v w f) _ s.hypotheses (valid w f φ) (true_from _ s.hypotheses λ n i.
      ⊎_elim (true_at _ H n h) (true_at _ part.hypotheses n t) ((m n).0 i)))

  all_follow : (H : List ℕ) (above premises : List Sequent) → AllZip (Made H) above premises → AllByRecursion (Valid v) premises → AllByRecursion (Follows H) above
  all_follow H [] [] m valid = tt
  all_follow H [] (s ∷ ss) m valid = absurd m
  all_follow H (p ∷ ps) [] m valid = absurd m
  all_follow H (p ∷ ps) (s ∷ ss) m valid = (follows H p s m.0 valid.0, all_follow H ps ss m.1 valid.1)

pub sound : Sound
sound v wf rule a b c premises s (H, fresh, above, below, form, absent, ((e, m), made)) valid w f φ =
    holds_from (true_in v w f) _ s.hypotheses λ t.
    let at : (n : ℕ) → In n s.hypotheses → T (true_in v w f n) = λ n. true_at (true_in v w f) s.hypotheses n t in
    rw e (form_sound v wf w H a b c form absent (all_follow v wf w H above premises made valid) f φ
    (true_from _ H λ n i. at n ((m n).1 (inl i))) (true_from _ below.hypotheses λ n i. at n ((m n).1 (inr i))))

-- every type has a value
a_thing : (n : ℕ) → (u : Value) × In u (things n)
a_thing zero = (thing 0, inl refl)
a_thing (suc n) = (thing (suc n), inl refl)

a_value : (v : Vocabulary) → WellFormed v → (w : Structure) (t : ℕ) → (u : Value) × In u (values v w t)
a_value v wf w = by_parts v wf.types_fall (λ t. (u : Value) × In u (values v w t)) λ t ih. rw (values_is v wf w t) (go t (sort v t) ih)
  where
    go : (t : ℕ) (s : Sort ℕ) → ((r : ℕ) → In r (parts s) → (u : Value) × In u (values v w r)) → (u : Value) × In u (values_layer w t (across (values v w) s))
    go t carrier ih = a_thing (w.size t)
    go t (product a b) ih = let x = ih a (inl refl) in let y = ih b (inr (inl refl)) in
        (ordered_pair x.0 y.0, in_pairs _ _ (values v w a) (values v w b) x.1 y.1)

pub consistent : Consistent
consistent v wf n (_, e) valid =
    let w : Structure = record { size = λ _. 0; contains = λ _ _. false } in
    let f : ℕ → Value = λ x. (a_value v wf w (variable_type v x)).0 in
    let i : Interpretation v w f = record { variables_typed = λ x _. (a_value v wf w (variable_type v x)).1; sets_typed = λ s _ u t. absurd t } in
    opens v wf w n f e (holds_at (true_in v w f) _ [] (valid w f i) tt)
