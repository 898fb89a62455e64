-- The answers of the code decide whether a step is an instance of a rule.
use Rattle.std.specs.Prelude.{◌≡◌, ℕ, Bool, true, false, ◌&&◌, T, List, [], ◌∷◌, length, Some, None, Option, Decides, if◌then◌else◌, ◌==◌, ◌≢◌, refl}
use Rattle.std.proofs.Common.{sym, ◌∙◌, ap, subst, subst₂}
use Rattle.std.proofs.lemmas.Bool.Decides.{Decides-and, Decides-at, Decides-eqb, Decides-like}
use Rattle.std.specs.List.{list_any}
use Rattle.std.proofs.lemmas.List.{length-map}
use Rattle.logic.specs.Formulas.{Vocabulary, WellFormed}
use Rattle.logic.specs.Meanings.{Sequent as Seq}
use Rattle.logic.specs.Rules.{Instance, Subset, minus}
use Rattle.logic.specs.declared.rule.Rule.{Rule}
use Rattle.logic.specs.declared.rule.Rule.TheVariants.{Mon, FalseL}
use Rattle.logic.proofs.Comparing.{mon_by_subset}
use Rattle.logic.proofs.Unique.{false_by_member}
use Rattle.formulas.specs.declared.kinds.Kind.TheVariants.{False}
use Rattle.calculus.specs.Model.{seq, seqs}
use Rattle.calculus.specs.declared.sequent.Sequent.{Sequent}
use Rattle.calculus.specs.declared.step.Step.{Step}
use Rattle.matching.specs.declared.side.SideFormulas.TheVariants.{Nothing}
use Rattle.matching.specs.declared.line.Line.{Line}
use Rattle.matching.specs.Reading.{is}
use Rattle.matching.specs.Sets.{covered}
use Rattle.rules.specs.Tables.{arity, by_line}
use Rattle.matching.specs.Lines.{row, line, goal_at, line_fits, Substitutions}
use Rattle.rules.specs.Fitting.{covered_is, any_from_in, in_from_any}
use Rattle.rules.specs.Judging.{by_line_decides}
use Rattle.matching.proofs.Records.{falsity_by_test, test_by_falsity}
use Rattle.rules.specs.TablesLemmas.{table_right}

-- with another number of premises there is no instance
pub other_count : (v : Vocabulary) (r : Rule) (a b c : ℕ) (s : Seq) (xs : List Sequent) → (length xs ≢ arity r) → Instance v r a b c (seqs xs) s → ⊥
other_count v r a b c s xs f i = f (sym (length-map xs seq) ∙ table_right v r a b c (seqs xs) s i)

minus_none : (ns : List ℕ) → minus ns [] ≡ ns
minus_none [] = refl
minus_none (n ∷ ns) = ap (λ ms. n ∷ ms) (minus_none ns)

pub mon_answer : (v : Vocabulary) (a b c : ℕ) (s : Seq) (xs : List Sequent) (p : Sequent) (g k : ℕ) (ns ms : List ℕ) (t : Bool) → xs ≡ p ∷ [] →
    g ≡ s.goal → k ≡ (seq p).goal → ns ≡ (seq p).hypotheses → ms ≡ s.hypotheses → t ≡ covered Nothing ns ms → Decides (g == k && t) (Instance v Mon a b c (seqs xs) s)
mon_answer v a b c s xs p g k ns ms t e eg ek en em et =
    subst (λ (zs : List Sequent). Decides (g == k && t) (Instance v Mon a b c (seqs zs) s)) (sym e)
    (Decides-like (g == k && t)
    (λ d. (mon_by_subset v a b c (seq p) s).1 (sym eg ∙ d.0 ∙ ek, subst₂ (λ (A B : List ℕ). Subset A B) (minus_none ns ∙ en) em d.1))
    (λ i. let d = (mon_by_subset v a b c (seq p) s).0 i in (eg ∙ d.0 ∙ sym ek, subst₂ (λ (A B : List ℕ). Subset A B) (sym (minus_none ns ∙ en)) (sym em) d.1))
    (Decides-and (g == k) t (Decides-eqb g k) (Decides-at t (covered Nothing ns ms) et (covered_is Nothing ns ms))))

pub false_answer : (v : Vocabulary) (a b c : ℕ) (s : Seq) (xs : List Sequent) (t : Bool) → xs ≡ [] →
    t ≡ list_any (λ n. is v n False 0 0) s.hypotheses → Decides t (Instance v FalseL a b c (seqs xs) s)
false_answer v a b c s xs t e et =
    subst (λ (zs : List Sequent). Decides t (Instance v FalseL a b c (seqs zs) s)) (sym e)
    (Decides-like t (false_by_member v a b c s).1 (false_by_member v a b c s).0 (
      λ h. let (n, i, f) = in_from_any (λ n. is v n False 0 0) s.hypotheses (sym et ∙ h) in (n, i, falsity_by_test v n f),
      λ (n, i, f). et ∙ any_from_in (λ n. is v n False 0 0) s.hypotheses n i (test_by_falsity v n f),
    ))

-- the answer at the line that a step may have
abbrev fits_if_any : Vocabulary → Option Line → Seq → List Seq → Bool
fits_if_any v None s ps = false
fits_if_any v (Some l) s ps = line_fits v l s ps

fits_taken : (v : Vocabulary) (s : Seq) (ps : List Seq) (b : Bool) (l : Line) → fits_if_any v (if b then Some l else None) s ps ≡ (b && line_fits v l s ps)
fits_taken v s ps true l = refl
fits_taken v s ps false l = refl

pub by_line_answer : (v : Vocabulary) → WellFormed v → (r : Rule) (x : Step) (s : Seq) (xs : List Sequent) (g p q : ℕ) (w z : Bool) (l : Option Line) →
    T (by_line r) → length xs ≡ arity r → g ≡ s.goal → p ≡ goal_at (seqs xs) 0 → q ≡ goal_at (seqs xs) 1 → Substitutions v r x g p w z →
    l ≡ line v r x g p q w z → Decides (fits_if_any v l s (seqs xs)) (Instance v r x.a x.b x.c (seqs xs) s)
by_line_answer v wf r x s xs g p q w z l h n eg ep eq a el =
    let k = row v r x s.goal (goal_at (seqs xs) 0) (goal_at (seqs xs) 1) w z in
    Decides-at (fits_if_any v l s (seqs xs)) (k.matches && line_fits v k.line s (seqs xs))
    (ap (λ (m : Option Line). fits_if_any v m s (seqs xs)) (el ∙ ap (λ (m : ℕ). line v r x m p q w z) eg ∙ ap (λ (m : ℕ). line v r x s.goal m q w z) ep ∙ ap (λ (m : ℕ). line v r x s.goal (goal_at (seqs xs) 0) m w z) eq) ∙
    fits_taken v s (seqs xs) k.matches k.line)
    (by_line_decides v wf r x s (seqs xs) w z h (length-map xs seq ∙ n) (subst₂ (λ (G P : ℕ). Substitutions v r x G P w z) eg ep a))
