-- The arguments and the goals of a step determine its line of the table, MON's added set apart.
use Rattle.logic.specs.declared.rule.Rule.{Rule}
use Rattle.logic.specs.declared.rule.Rule.TheVariants.{Mon, FalseL}
use Rattle.std.proofs.Common.{◌≡◌, ℕ, ◌<◌, Bool, true, false, T, ◌⊎◌, List, [], ◌∷◌, length, sym, refl, ◌∙◌, subst, ap₂, inl, inr, ⊎_elim}
use mathlib.Core.Path.{subst₃}
use Rattle.std.proofs.lemmas.Bool.{cases_lt}
use lib.ListN.{get_or-eq_default}
use Rattle.std.specs.List.{AllByRecursion}
use Rattle.logic.proofs.Comparing.{fits_by, instance_by_sets}
use Rattle.logic.proofs.Tests.{and_right}
use Rattle.logic.specs.Formulas.{In, Shape, implies, variable, pair, falsity, truth, negation, join, bind, equal, member, Vocabulary, node, WellFormed}
use Rattle.logic.specs.Meanings.{Sequent}
use Rattle.logic.specs.Rules.{◌⊢◌, Falsity, goals, LinesUnique, JudgedByLine, FalseByMember, Absent, Made, least, fits, Form, hyp, mon, cut, false_l, false_r, not_l, not_r, and_l, and_r, or_l, or_r, imp_l, imp_r, true_r, eqv_l, eqv_r, all_l, all_r, xst_l, xst_r, eql, eq_lr, eq_rl, pair_l, pair_r}

-- a shape other than ⊥
abbrev negative : Shape ℕ → Bool
negative (variable x) = true
negative (pair a b) = true
negative falsity = false
negative truth = true
negative (negation a) = true
negative (join c a b) = true
negative (bind q x b) = true
negative (equal a b) = true
negative (member a s) = true

-- a record other than ⊥ stands once
same_record : (v : Vocabulary) → WellFormed v → (n m : ℕ) → (node v n ≡ falsity → ⊥) → node v n ≡ node v m → n ≡ m
unfolding node
same_record v wf n m other e = wf.records_once n m (known n other) (known m λ f. other (e ∙ f)) e
  where
    known : (k : ℕ) → (node v k ≡ falsity → ⊥) → k < length v.formulas
    known k f = ⊎_elim (λ h. h) (λ h. absurd (f (get_or-eq_default v.formulas falsity h))) (cases_lt k (length v.formulas))

apart : {s : Shape ℕ} → s ≡ falsity → T (negative s) → ⊥
apart {s} e t = subst (λ r. T (negative r)) e t

module _ (v : Vocabulary) (wf : WellFormed v) (a b c : ℕ) where
  once : (n m : ℕ) (s : Shape ℕ) → T (negative s) → node v n ≡ s → node v m ≡ s → n ≡ m
  once n m s t e f = same_record v wf n m (λ z. apart (sym e ∙ z) t) (e ∙ sym f)

  unique : {r : Rule} {fresh fresh' : List ℕ} {above above' : List Sequent} {below below' : Sequent} →
      Form v a b c r fresh above below → Form v a b c r fresh' above' below' → goals (below ∷ above) ≡ goals (below' ∷ above') →
      (fresh ≡ fresh') × (above ≡ above') × ((r ≡ Mon) ⊎ ((r ≡ FalseL) ⊎ (below ≡ below')))
  unique hyp hyp g = (refl, refl, inr (inr cc))
  unique mon mon g = (refl, cc, inl refl)
  unique cut cut g = (refl, cc, inr (inr cc))
  unique (false_l e) (false_l e') g = (refl, refl, inr (inl refl))
  unique (false_r e i) (false_r e' i') g = (refl, cc, inr (inr cc))
  unique (not_l {n = n} {q = q} e i) (not_l {n = n'} {q = q'} e' i') g =
      let d = once n n' (negation q) tt i (let k : node v n' ≡ negation q = cc in k) in (refl, cc, inr (inr cc))
  unique (not_r e i) (not_r e' i') g = (refl, cc, inr (inr cc))
  unique (and_l e) (and_l e') g = (refl, cc, inr (inr cc))
  unique (and_r e) (and_r e') g = (refl, cc, inr (inr cc))
  unique (or_l e) (or_l e') g = (refl, cc, inr (inr cc))
  unique (or_r {m = m} {p = p} e i) (or_r {m = m'} e' i') g =
      let k : node v m' ≡ negation p = cc in let d = once m m' (negation p) tt i k in (refl, cc, inr (inr cc))
  unique (imp_l e) (imp_l e') g = (refl, cc, inr (inr cc))
  unique (imp_r e) (imp_r e') g = (refl, cc, inr (inr cc))
  unique (true_r e) (true_r e') g = (refl, refl, inr (inr cc))
  unique (eqv_l {n = n} {m = m} {p = p} {q = q} e i j) (eqv_l {n = n'} {m = m'} e' i' j') g =
      let k : node v n' ≡ join implies p q = cc in let l : node v m' ≡ join implies q p = cc in
      let d = once n n' (join implies p q) tt i k in let f = once m m' (join implies q p) tt j l in (refl, cc, inr (inr cc))
  unique (eqv_r e i j) (eqv_r e' i' j') g = (refl, cc, inr (inr cc))
  unique (all_l e i) (all_l e' i') g = (refl, cc, inr (inr cc))
  unique (all_r e) (all_r e') g = (cc, cc, inr (inr cc))
  unique (xst_l e i) (xst_l e' i') g = (cc, cc, inr (inr cc))
  unique (xst_r e i) (xst_r e' i') g = (refl, cc, inr (inr cc))
  unique (eql e) (eql e') g = (refl, refl, inr (inr cc))
  unique (eq_lr _ e i j) (eq_lr _ e' i' j') g = (refl, cc, inr (inr cc))
  unique (eq_rl _ e i j) (eq_rl _ e' i' j') g = (refl, cc, inr (inr cc))
  unique (pair_l {i = o} {j = p} {e = x} {f = y} {g = z} {k = t} e i j k l) (pair_l {i = o'} {j = p'} e' i' j' k' l') g =
      let q : node v o' ≡ equal x z = cc in let r : node v p' ≡ equal y t = cc in
      let d = once o o' (equal x z) tt k q in let f = once p p' (equal y t) tt l r in (refl, cc, inr (inr cc))
  unique (pair_r e i j k l) (pair_r e' i' j' k' l') g = (refl, cc, inr (inr cc))

pub lines_unique : LinesUnique
lines_unique v wf a b c r fresh fresh' above above' below below' = unique v wf a b c

pub goals_agree : (L : List ℕ) (ps ss : List Sequent) → T (fits L ps ss) → goals ps ≡ goals ss
goals_agree L [] [] t = refl
goals_agree L [] (s ∷ ss) t = absurd t
goals_agree L (p ∷ ps) [] t = absurd t
goals_agree L (p ∷ ps) (s ∷ ss) t = let h = fits_by L (p ∷ ps) (s ∷ ss) t in ap₂ {C = List ℕ} (λ n ns. n ∷ ns) (sym h.0.0) (goals_agree L ps ss (and_right _ (fits L ps ss) t))

pub judged_by_line : JudgedByLine
judged_by_line v wf a b c r fresh above below premises s not-mon not-false form goals = (
  λ i. to ((instance_by_sets v r a b c premises s).0 i),
  λ (absent, fit). (instance_by_sets v r a b c premises s).1 (fresh, above, below, form, absent, fit),
)
  where
    Judged : List ℕ → List Sequent → Sequent → Type 0
    Judged f ps z = AllByRecursion (λ x. Absent v x (least (z ∷ ps) (s ∷ premises))) f × T (fits (least (z ∷ ps) (s ∷ premises)) (z ∷ ps) (s ∷ premises))

    to : ((f : List ℕ) × (ps : List Sequent) × (z : Sequent) × Form v a b c r f ps z ×
        AllByRecursion (λ x. Absent v x (least (z ∷ ps) (s ∷ premises))) f × T (fits (least (z ∷ ps) (s ∷ premises)) (z ∷ ps) (s ∷ premises))) → Judged fresh above below
    to (f, ps, z, form', absent, fit) =
        let u = unique v wf a b c form form' (goals ∙ sym (goals_agree _ (z ∷ ps) (s ∷ premises) fit)) in
        let e : below ≡ z = ⊎_elim (λ k. absurd (not-mon k)) (⊎_elim (λ k. absurd (not-false k)) (λ k. k)) u.2 in
        subst₃ Judged (sym u.0) (sym u.1) (sym e) (absent, fit)

false_member : {v : Vocabulary} {a b c : ℕ} {fresh : List ℕ} {above : List Sequent} {below : Sequent} (H : List ℕ) (s : Sequent) → Form v a b c FalseL fresh above below →
    Made H below s → (n : ℕ) × In n s.hypotheses × Falsity v n
false_member H s (false_l {n = n} e) m = (n, (m.1 n).1 (inr (inl refl)), e)

pub false_by_member : FalseByMember
false_by_member v a b c s = (
  λ (H, fresh, above, below, form, absent, made). false_member H s form made.0,
  λ (n, i, e). (
    s.hypotheses,
    [],
    [],
    n ∷ [] ⊢ s.goal,
    false_l e,
    tt,
    ((refl, λ m. (inl, ⊎_elim (λ j. j) (⊎_elim (λ k. subst (λ r. In r s.hypotheses) (sym k) i) (λ k. absurd k)))), tt),
  ),
)
