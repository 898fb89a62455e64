-- The line and the sets decide whether a step is an instance of its rule.
use Rattle.std.specs.Prelude.{◌≡◌, ℕ, ◌-◌, ◌≤◌, Bool, true, ◌&&◌, T, ◌↔◌, List, [], ◌∷◌, length, take, Decides, refl}
use Rattle.std.proofs.Common.{◌∙◌, subst, arith}
use Rattle.std.specs.List.{AllByRecursion}
use Rattle.std.proofs.lemmas.Bool.{and_parts, and_from}
use Rattle.logic.specs.Formulas.{Vocabulary, WellFormed}
use Rattle.logic.specs.Meanings.{Sequent as Seq}
use Rattle.logic.specs.Rules.{◌⊢◌, goals, Form, Instance, Absent, least, fits}
use Rattle.logic.specs.declared.rule.Rule.{Rule}
use Rattle.logic.proofs.Comparing.{instance_by_sets}
use Rattle.logic.proofs.Unique.{goals_agree, judged_by_line}
use Rattle.calculus.specs.declared.step.Step.{Step}
use Rattle.matching.specs.declared.line.Line.{Line}
use Rattle.matching.specs.Sets.{formulas}
use Rattle.matching.specs.Lines.{Row, row, contexts_agree, above, below, goal_at, fresh_absent, fresh_variables, line_fits, Substitutions}
use Rattle.rules.specs.Fitting.{contexts_agree_is, fresh_absent_is}
use Rattle.rules.specs.Matching.{matched_form, form_matches}
use Rattle.logic.specs.Numbers.{number}
use Rattle.rules.specs.Tables.{arity, by_line}
use Rattle.rules.specs.TablesLemmas.{few}

take_above : (l : Line) (ps : List Seq) (n : ℕ) → length ps ≡ n → length ps ≤ 2 →
    take n ((formulas l.first ⊢ (goal_at ps 0)) ∷ (formulas l.second ⊢ (goal_at ps 1)) ∷ []) ≡ above l ps
take_above l [] n e h = subst (λ (k : ℕ). take k ((formulas l.first ⊢ 0) ∷ (formulas l.second ⊢ 0) ∷ []) ≡ []) e refl
take_above l (p ∷ []) n e h = subst (λ (k : ℕ). take k ((formulas l.first ⊢ p.goal) ∷ (formulas l.second ⊢ 0) ∷ []) ≡ above l (p ∷ [])) e refl
take_above l (p ∷ q ∷ []) n e h = subst (λ (k : ℕ). take k ((formulas l.first ⊢ p.goal) ∷ (formulas l.second ⊢ q.goal) ∷ []) ≡ above l (p ∷ q ∷ [])) e refl
take_above l (p ∷ q ∷ r ∷ ps) n e h = absurd (omega arith)

goals_above : (l : Line) (s : Seq) (ps : List Seq) → length ps ≤ 2 → goals (below l s ∷ above l ps) ≡ goals (s ∷ ps)
goals_above l s [] h = refl
goals_above l s (p ∷ []) h = refl
goals_above l s (p ∷ q ∷ []) h = refl
goals_above l s (p ∷ q ∷ r ∷ ps) h = absurd (omega arith)

goals_taken : (s : Seq) (ps : List Seq) (n : ℕ) → length ps ≡ n → length ps ≤ 2 → goals (s ∷ ps) ≡ s.goal ∷ take n (goal_at ps 0 ∷ goal_at ps 1 ∷ [])
goals_taken s [] n e h = subst (λ (k : ℕ). s.goal ∷ [] ≡ s.goal ∷ take k (0 ∷ 0 ∷ [])) e refl
goals_taken s (p ∷ []) n e h = subst (λ (k : ℕ). s.goal ∷ p.goal ∷ [] ≡ s.goal ∷ take k (p.goal ∷ 0 ∷ [])) e refl
goals_taken s (p ∷ q ∷ []) n e h = subst (λ (k : ℕ). s.goal ∷ p.goal ∷ q.goal ∷ [] ≡ s.goal ∷ take k (p.goal ∷ q.goal ∷ [])) e refl
goals_taken s (p ∷ q ∷ r ∷ ps) n e h = absurd (omega arith)

pub by_line_decides : (v : Vocabulary) → WellFormed v → (r : Rule) (x : Step) (s : Seq) (ps : List Seq) (w z : Bool) → T (by_line r) → length ps ≡ arity r →
    Substitutions v r x s.goal (goal_at ps 0) w z →
    Decides ((row v r x s.goal (goal_at ps 0) (goal_at ps 1) w z).matches && line_fits v (row v r x s.goal (goal_at ps 0) (goal_at ps 1) w z).line s ps) (Instance v r x.a x.b x.c ps s)
by_line_decides v wf r x s ps w z t e a = (
  λ h. let d = and_parts k.matches (line_fits v l s ps) h in let f = and_parts (contexts_agree l s ps) (fresh_absent v l.fresh l s ps) d.1 in
      (decided d.0).1 ((fresh_absent_is v l.fresh l s ps two).0 f.1, (contexts_agree_is l s ps two).0 f.0),
  λ i. let g = good i in let j = (decided g).0 i in
      and_from k.matches (line_fits v l s ps) g
      (and_from (contexts_agree l s ps) (fresh_absent v l.fresh l s ps) ((contexts_agree_is l s ps two).1 j.1) ((fresh_absent_is v l.fresh l s ps two).1 j.0)),
)
  where
    k : Row
    k = row v r x s.goal (goal_at ps 0) (goal_at ps 1) w z

    l : Line
    l = k.line

    two : length ps ≤ 2
    two = omega (arith, few (number r - 1))

    form : k.matches ≡ true → Form v x.a x.b x.c r (fresh_variables l.fresh) (above l ps) (below l s)
    form g = subst (λ (A : List Seq). Form v x.a x.b x.c r (fresh_variables l.fresh) A (below l s)) (take_above l ps (arity r) e two)
        (matched_form v x r s.goal (goal_at ps 0) (goal_at ps 1) w z a g)

    decided : k.matches ≡ true → Instance v r x.a x.b x.c ps s ↔ (AllByRecursion (λ y. Absent v y (least (below l s ∷ above l ps) (s ∷ ps))) (fresh_variables l.fresh) ×
        T (fits (least (below l s ∷ above l ps) (s ∷ ps)) (below l s ∷ above l ps) (s ∷ ps)))
    decided g = judged_by_line v wf x.a x.b x.c r (fresh_variables l.fresh) (above l ps) (below l s) ps s
        (λ m. subst (λ (q : Rule). T (by_line q)) m t) (λ m. subst (λ (q : Rule). T (by_line q)) m t) (form g) (goals_above l s ps two)

    good : Instance v r x.a x.b x.c ps s → k.matches ≡ true
    good i = let (fresh, A, B, f, absent, fit) = (instance_by_sets v r x.a x.b x.c ps s).0 i in
        form_matches v x f s.goal (goal_at ps 0) (goal_at ps 1) w z a (goals_agree (least (B ∷ A) (s ∷ ps)) (B ∷ A) (s ∷ ps) fit ∙ goals_taken s ps (arity r) e two) t
