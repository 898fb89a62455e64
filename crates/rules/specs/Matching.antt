-- A step's line is one of the table's where it matches, and each line of the table matches.
use Rattle.std.specs.Prelude.{◌≡◌, ℕ, Bool, true, not, T, List, [], ◌∷◌, take, refl}
use Rattle.std.proofs.Common.{sym, ◌∙◌, ap, ap₂, subst, subst₂}
use Rattle.std.proofs.Math.Path.{subst₃}
use Rattle.std.proofs.lemmas.Bool.{and_parts, and_from, eqb-true, eq-eqb, false≢true}
use Rattle.logic.specs.Formulas.{or, implies, iff, forall, exists, Shape, negation, join, bind, equal, pair, Vocabulary, node, free, IsSubstitution}
use Rattle.logic.specs.Meanings.{Sequent as Seq}
use Rattle.logic.specs.Rules.{◌⊢◌, Falsity, goals, Form, hyp, mon, cut, false_l, false_r, not_l, not_r, and_l, and_r, or_l, or_r, imp_l, imp_r, true_r, eqv_l, eqv_r, all_l, all_r, xst_l, xst_r, eql, eq_lr, eq_rl, pair_l, pair_r}
use Rattle.logic.specs.declared.rule.Rule.{Rule}
use Rattle.logic.specs.declared.rule.Rule.TheVariants.{Hyp, Mon, Cut, FalseL, FalseR, NotL, NotR, AndL, AndR, OrL, OrR, ImpL, ImpR, TrueR, EqvL, EqvR, AllL, AllR, XstL, XstR, Eql, EqLR, EqRL, PairL, PairR}
use Rattle.logic.proofs.Tests.{is_true, is_so}
use Rattle.formulas.specs.declared.kinds.Kind.TheVariants.{Pair, True, Not, And, Or, Implies, Iff, ForAll, Exists, Equal}
use Rattle.formulas.specs.Records.{record_of}
use Rattle.calculus.specs.declared.step.Step.{Step}
use Rattle.calculus.proofs.Deciding.{predicate_decided}
use Rattle.matching.specs.Reading.{first_operand, second_operand, equates_pairs}
use Rattle.matching.specs.Sets.{formulas}
use Rattle.rules.specs.Tables.{arity, by_line}
use Rattle.matching.specs.Lines.{row, Substitutions, fresh_variables}
use Rattle.matching.proofs.Records.{shape_by_test, falsity_by_test, test_by_shape, test_by_falsity, kind_by_shape, shape_of_number, number_by_shape}

abbrev first : Shape ℕ → ℕ
first s = (record_of s).a

abbrev second : Shape ℕ → ℕ
second s = (record_of s).b

-- what an equation of pairs has of its parts
record Paired (v : Vocabulary) (n c d e f : ℕ) : Type 0 where
  equates : equates_pairs v n ≡ true
  firsts : equal c e ≡ equal (first_operand v (first_operand v n)) (first_operand v (second_operand v n))
  seconds : equal d f ≡ equal (second_operand v (first_operand v n)) (second_operand v (second_operand v n))

paired : (v : Vocabulary) (n y z c d e f : ℕ) → node v n ≡ equal y z → node v y ≡ pair c d → node v z ≡ pair e f → Paired v n c d e f
paired v n y z c d e f p q r =
    let left_pair : node v (first_operand v n) ≡ pair c d = ap (λ (k : ℕ). node v k) (ap first p) ∙ q in
    let right_pair : node v (second_operand v n) ≡ pair e f = ap (λ (k : ℕ). node v k) (ap second p) ∙ r in
    record {
      equates = and_from _ _ (kind_by_shape v n Equal y z tt refl p) (and_from _ _ (kind_by_shape v (first_operand v n) Pair c d tt refl left_pair) (kind_by_shape v (second_operand v n) Pair e f tt refl right_pair));
      firsts = ap₂ equal (sym (ap first left_pair)) (sym (ap first right_pair));
      seconds = ap₂ equal (sym (ap second left_pair)) (sym (ap second right_pair));
    }

module _ (v : Vocabulary) (x : Step) where
  -- the operands of the formula that the step names first
  abbrev left : ℕ
  left = first_operand v x.a

  abbrev right : ℕ
  right = second_operand v x.a

  pub matched_form : (r : Rule) (g p q : ℕ) (w z : Bool) → Substitutions v r x g p w z → (row v r x g p q w z).matches ≡ true →
      Form v x.a x.b x.c r (fresh_variables (row v r x g p q w z).line.fresh)
      (take (arity r) ((formulas (row v r x g p q w z).line.first ⊢ p) ∷ (formulas (row v r x g p q w z).line.second ⊢ q) ∷ []))
      (formulas (row v r x g p q w z).line.conclusion ⊢ g)
  matched_form Hyp g p q w z a h = hyp
  matched_form Mon g p q w z a h = absurd (false≢true h)
  matched_form Cut g p q w z a h = subst (λ (k : ℕ). Form v x.a x.b x.c Cut [] (([] ⊢ p) ∷ (p ∷ [] ⊢ q) ∷ []) ([] ⊢ k)) (eqb-true q g h) cut
  matched_form FalseL g p q w z a h = absurd (false≢true h)
  matched_form FalseR g p q w z a h = let d = and_parts _ _ h in false_r (shape_by_test v q Not p 0 d.0) (falsity_by_test v g d.1)
  matched_form NotL g p q w z a h = let d = and_parts _ _ h in not_l (shape_by_test v x.a Not p 0 d.1) (shape_of_number v Not g 0 d.0)
  matched_form NotR g p q w z a h = let d = and_parts _ _ h in not_r (shape_by_test v g Not (first_operand v g) (second_operand v g) d.0) (falsity_by_test v p d.1)
  matched_form AndL g p q w z a h = let d = and_parts _ _ h in rw (eqb-true p g d.1) (and_l (shape_by_test v x.a And left right d.0))
  matched_form AndR g p q w z a h = and_r (shape_by_test v g And p q h)
  matched_form OrL g p q w z a h = let d = and_parts _ _ h in let f = and_parts _ _ d.1 in
      rw (eqb-true p g f.0) (rw (eqb-true q g f.1) (or_l (shape_by_test v x.a Or left right d.0)))
  matched_form OrR g p q w z a h = let d = and_parts _ _ h in let f = and_parts _ _ d.1 in
      rw (eqb-true p (second_operand v g) f.1) (or_r (shape_by_test v g Or (first_operand v g) (second_operand v g) d.0) (shape_of_number v Not (first_operand v g) 0 f.0))
  matched_form ImpL g p q w z a h = let d = and_parts _ _ h in rw (eqb-true p g d.1) (imp_l (shape_by_test v x.a Implies left right d.0))
  matched_form ImpR g p q w z a h = let d = and_parts _ _ h in
      rw (eqb-true p (second_operand v g) d.1) (imp_r (shape_by_test v g Implies (first_operand v g) (second_operand v g) d.0))
  matched_form TrueR g p q w z a h = true_r (shape_by_test v g True 0 0 h)
  matched_form EqvL g p q w z a h = let d = and_parts _ _ h in let f = and_parts _ _ d.1 in let k = and_parts _ _ f.1 in
      rw (eqb-true p g k.1) (eqv_l (shape_by_test v x.a Iff left right d.0) (shape_of_number v Implies left right f.0) (shape_of_number v Implies right left k.0))
  matched_form EqvR g p q w z a h = let d = and_parts _ _ h in let f = and_parts _ _ d.1 in
      eqv_r (shape_by_test v g Iff (first_operand v g) (second_operand v g) d.0) (shape_by_test v p Implies (first_operand v g) (second_operand v g) f.0) (shape_by_test v q Implies (second_operand v g) (first_operand v g) f.1)
  matched_form AllL g p q w z a h = let d = and_parts _ _ h in let f = and_parts _ _ d.1 in
      rw (eqb-true p g f.1) (all_l (shape_by_test v x.a ForAll left right d.0) (a.0 (is_so w f.0)))
  matched_form AllR g p q w z a h = let d = and_parts _ _ h in
      rw (eqb-true p (second_operand v g) d.1) (all_r (shape_by_test v g ForAll (first_operand v g) (second_operand v g) d.0))
  matched_form XstL g p q w z a h = let d = and_parts _ _ h in let f = and_parts _ _ d.1 in
      rw (eqb-true p g f.1) (xst_l (shape_by_test v x.a Exists left right d.0) (is_so (not (free v left g)) f.0))
  matched_form XstR g p q w z a h = let d = and_parts _ _ h in xst_r (shape_by_test v g Exists (first_operand v g) (second_operand v g) d.0) (a.0 (is_so w d.1))
  matched_form Eql g p q w z a h = let d = and_parts _ _ h in
      eql (subst (λ (k : ℕ). node v g ≡ equal (first_operand v g) k) (sym (eqb-true (first_operand v g) (second_operand v g) d.1)) (shape_by_test v g Equal (first_operand v g) (second_operand v g) d.0))
  matched_form EqLR g p q w z a h = let d = and_parts _ _ h in let f = and_parts _ _ d.1 in let k = and_parts _ _ f.1 in
      eq_lr ((predicate_decided v x.c).0 f.0) (shape_by_test v x.a Equal left right d.0) (a.0.0 (is_so w k.0)) (a.1.0 (is_so z k.1))
  matched_form EqRL g p q w z a h = let d = and_parts _ _ h in let f = and_parts _ _ d.1 in let k = and_parts _ _ f.1 in
      eq_rl ((predicate_decided v x.c).0 f.0) (shape_by_test v x.a Equal left right d.0) (a.0.0 (is_so w k.0)) (a.1.0 (is_so z k.1))
  matched_form PairL g p q w z a h = let d = and_parts _ _ h in let e = and_parts _ _ d.0 in let i = and_parts _ _ e.1 in let f = and_parts _ _ d.1 in let k = and_parts _ _ f.1 in
      rw (eqb-true p g k.1) (pair_l (shape_by_test v x.a Equal left right e.0) (shape_by_test v left Pair _ _ i.0) (shape_by_test v right Pair _ _ i.1) (shape_of_number v Equal _ _ f.0) (shape_of_number v Equal _ _ k.0))
  matched_form PairR g p q w z a h = let d = and_parts _ _ h in let e = and_parts _ _ d.0 in let i = and_parts _ _ e.1 in let f = and_parts _ _ d.1 in
      pair_r (shape_by_test v g Equal (first_operand v g) (second_operand v g) e.0) (shape_by_test v (first_operand v g) Pair _ _ i.0) (shape_by_test v (second_operand v g) Pair _ _ i.1) (shape_by_test v p Equal _ _ f.0) (shape_by_test v q Equal _ _ f.1)

  pub form_matches : {r : Rule} {fresh : List ℕ} {above : List Seq} {below : Seq} → Form v x.a x.b x.c r fresh above below → (g p q : ℕ) (w z : Bool) → Substitutions v r x g p w z →
      goals (below ∷ above) ≡ g ∷ take (arity r) (p ∷ q ∷ []) → T (by_line r) → (row v r x g p q w z).matches ≡ true
  form_matches hyp g p q w z a h t = refl
  form_matches mon g p q w z a h t = absurd t
  form_matches cut g p q w z a h t = eq-eqb q g (cc)
  form_matches (false_l e) g p q w z a h t = absurd t
  form_matches (false_r {m = m} e i) g p q w z a h t = let k : m ≡ g = cc in and_from _ _ (test_by_shape v q Not p 0 tt refl (cc)) (test_by_falsity v g (subst (Falsity v) k i))
  form_matches (not_l {n = n} e i) g p q w z a h t = and_from _ _ (number_by_shape v Not g 0 n tt refl (cc)) (test_by_shape v x.a Not p 0 tt refl (cc))
  form_matches (not_r {m = m} {p = y} e i) g p q w z a h t =
      let k : node v g ≡ negation y = cc in let l : m ≡ p = cc in
      and_from _ _ (kind_by_shape v g Not y 0 tt refl k) (test_by_falsity v p (subst (Falsity v) l i))
  form_matches (and_l {p = y} {q = o} e) g p q w z a h t = and_from _ _ (kind_by_shape v x.a And y o tt refl e) (eq-eqb p g (cc))
  form_matches (and_r e) g p q w z a h t = test_by_shape v g And p q tt refl (cc)
  form_matches (or_l {p = y} {q = o} e) g p q w z a h t = and_from _ _ (kind_by_shape v x.a Or y o tt refl e) (and_from _ _ (eq-eqb p g (cc)) (eq-eqb q g (cc)))
  form_matches (or_r {m = m} {p = y} {q = o} e i) g p q w z a h t =
      let k : node v g ≡ join or y o = cc in let f : first_operand v g ≡ y = ap first k in let l : second_operand v g ≡ o = ap second k in
      and_from _ _ (kind_by_shape v g Or y o tt refl k) (and_from _ _ (number_by_shape v Not (first_operand v g) 0 m tt refl (cc)) (eq-eqb p (second_operand v g) (cc)))
  form_matches (imp_l {p = y} {q = o} e) g p q w z a h t = and_from _ _ (kind_by_shape v x.a Implies y o tt refl e) (eq-eqb p g (cc))
  form_matches (imp_r {p = y} {q = o} e) g p q w z a h t =
      let k : node v g ≡ join implies y o = cc in let l : second_operand v g ≡ o = ap second k in
      and_from _ _ (kind_by_shape v g Implies y o tt refl k) (eq-eqb p (second_operand v g) (cc))
  form_matches (true_r e) g p q w z a h t = test_by_shape v g True 0 0 tt refl (cc)
  form_matches (eqv_l {n = n} {m = m} {p = y} {q = o} e i j) g p q w z a h t =
      let f : left ≡ y = ap first e in let k : right ≡ o = ap second e in
      and_from _ _ (kind_by_shape v x.a Iff y o tt refl e) (and_from _ _ (number_by_shape v Implies left right n tt refl (cc)) (and_from _ _ (number_by_shape v Implies right left m tt refl (cc)) (eq-eqb p g (cc))))
  form_matches (eqv_r {p = y} {q = o} e i j) g p q w z a h t =
      let k : node v g ≡ join iff y o = cc in let f : first_operand v g ≡ y = ap first k in let l : second_operand v g ≡ o = ap second k in
      and_from _ _ (kind_by_shape v g Iff y o tt refl k) (and_from _ _ (test_by_shape v p Implies (first_operand v g) (second_operand v g) tt refl (cc)) (test_by_shape v q Implies (second_operand v g) (first_operand v g) tt refl (cc)))
  form_matches (all_l {p = y} {x = u} e i) g p q w z a h t =
      and_from _ _ (kind_by_shape v x.a ForAll u y tt refl e) (and_from _ _ (is_true w (a.1 (subst₂ (λ (U Y : ℕ). IsSubstitution v x.c U x.b Y) (sym (ap first e)) (sym (ap second e)) i))) (eq-eqb p g (cc)))
  form_matches (all_r {p = y} {x = u} e) g p q w z a h t =
      let k : node v g ≡ bind forall u y = cc in let l : second_operand v g ≡ y = ap second k in
      and_from _ _ (kind_by_shape v g ForAll u y tt refl k) (eq-eqb p (second_operand v g) (cc))
  form_matches (xst_l {p = y} {q = o} {x = u} e i) g p q w z a h t =
      and_from _ _ (kind_by_shape v x.a Exists u y tt refl e) (and_from _ _ (is_true _ (subst₂ (λ (U Q : ℕ). T (not (free v U Q))) (sym (ap first e)) (cc) i)) (eq-eqb p g (cc)))
  form_matches (xst_r {m = m} {p = y} {x = u} e i) g p q w z a h t =
      let k : node v g ≡ bind exists u y = cc in
      and_from _ _ (kind_by_shape v g Exists u y tt refl k) (is_true w (a.1 (subst₃ (λ (M U Y : ℕ). IsSubstitution v M U x.b Y) (cc) (sym (ap first k)) (sym (ap second k)) i)))
  form_matches (eql {e = y} e) g p q w z a h t =
      let k : node v g ≡ equal y y = cc in let f : first_operand v g ≡ y = ap first k in let l : second_operand v g ≡ y = ap second k in
      and_from _ _ (kind_by_shape v g Equal y y tt refl k) (eq-eqb (first_operand v g) (second_operand v g) (cc))
  form_matches (eq_lr {e = y} {f = f} o e i j) g p q w z a h t =
      and_from _ _ (kind_by_shape v x.a Equal y f tt refl e) (and_from _ _ ((predicate_decided v x.c).1 o)
      (and_from _ _ (is_true w (a.0.1 (subst₂ (λ (P F : ℕ). IsSubstitution v P x.b F x.c) (cc) (sym (ap second e)) i)))
      (is_true z (a.1.1 (subst₂ (λ (Q E : ℕ). IsSubstitution v Q x.b E x.c) (cc) (sym (ap first e)) j)))))
  form_matches (eq_rl {e = y} {f = f} o e i j) g p q w z a h t =
      and_from _ _ (kind_by_shape v x.a Equal y f tt refl e) (and_from _ _ ((predicate_decided v x.c).1 o)
      (and_from _ _ (is_true w (a.0.1 (subst₂ (λ (P E : ℕ). IsSubstitution v P x.b E x.c) (cc) (sym (ap first e)) i)))
      (is_true z (a.1.1 (subst₂ (λ (Q F : ℕ). IsSubstitution v Q x.b F x.c) (cc) (sym (ap second e)) j)))))
  form_matches (pair_l {i = o} {j = u} {n = n} {m = m} {e = b} {f = d} {g = c} {k = r} e i j k l) g p q w z a h t =
      let s = paired v x.a n m b d c r e i j in
      and_from _ _ s.equates (and_from _ _ (number_by_shape v Equal _ _ o tt refl (k ∙ s.firsts)) (and_from _ _ (number_by_shape v Equal _ _ u tt refl (l ∙ s.seconds)) (eq-eqb p g (cc))))
  form_matches (pair_r {i = o} {j = u} {n = n} {m = m} {e = b} {f = d} {g = c} {k = r} e i j k l) g p q w z a h t =
      let s = paired v g n m b d c r (cc) i j in
      let y = s.firsts in let b' = s.seconds in
      and_from _ _ s.equates (and_from _ _ (test_by_shape v p Equal _ _ tt refl (cc)) (test_by_shape v q Equal _ _ tt refl (cc)))
