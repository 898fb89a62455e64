-- The tests on sets decide whether some H fits a line.
use Rattle.std.specs.Prelude.{◌≡◌, ℕ, ◌≤◌, Bool, true, not, ◌&&◌, ◌||◌, T, List, [], ◌∷◌, ◌++◌, length, Some, None, Decides, Option, ◌==◌, refl}
use Rattle.std.proofs.Common.{sym, subst, inl, inr, ⊎_elim, arith}
use Rattle.std.proofs.lemmas.Bool.{and_parts, and_from, or_cases, or_left, or_right, eqb-true, eq-eqb, false≢true}
use Rattle.std.proofs.lemmas.Bool.Decides.{Decides-and, Decides-like}
use Rattle.logic.specs.Formulas.{In, Vocabulary, free}
use Rattle.logic.proofs.Soundness.{true_at, true_from}
use Rattle.std.specs.List.{AllByRecursion, list_all, list_any}
use Rattle.logic.specs.Meanings.{Sequent as Seq}
use Rattle.logic.specs.Rules.{Absent, Subset, minus, least, fits}
use Rattle.logic.proofs.Tests.{is_true, is_so}
use Rattle.logic.proofs.Typing.{in_left, in_right}
use Rattle.logic.proofs.Comparing.{mem_in, not_in, minus_from, minus_to, in_either, fits_of, fits_by}
use Rattle.matching.specs.declared.side.SideFormulas.{SideFormulas}
use Rattle.matching.specs.declared.side.SideFormulas.TheVariants.{Nothing, One, Two}
use Rattle.matching.specs.declared.line.Line.{Line}
use Rattle.matching.specs.Sets.{formulas, has_side, is_side, among, covered, same_context, absent}
use Rattle.matching.specs.Lines.{contexts_agree, above, below, absent_from_all, fresh_absent, fresh_variables}

pub any_from_in : (f : ℕ → Bool) (ns : List ℕ) (n : ℕ) → In n ns → f n ≡ true → list_any f ns ≡ true
any_from_in f [] n i h = absurd i
any_from_in f (m ∷ ns) n (inl e) h = or_left (f m) (list_any f ns) (subst (λ (k : ℕ). f k ≡ true) e h)
any_from_in f (m ∷ ns) n (inr i) h = or_right (f m) (list_any f ns) (any_from_in f ns n i h)

pub in_from_any : (f : ℕ → Bool) (ns : List ℕ) → list_any f ns ≡ true → (n : ℕ) × In n ns × (f n ≡ true)
in_from_any f [] h = absurd (false≢true h)
in_from_any f (m ∷ ns) h = ⊎_elim (λ e. (m, inl refl, e)) (λ e. let d = in_from_any f ns e in (d.0, inr d.1, d.2)) (or_cases (f m) (list_any f ns) h)

among_from_in : (n : ℕ) (ms : List ℕ) → In n ms → among n ms ≡ true
among_from_in n ms i = any_from_in (λ m. m == n) ms n i (eq-eqb n n refl)

in_from_among : (n : ℕ) (ms : List ℕ) → among n ms ≡ true → In n ms
in_from_among n ms h = let (m, i, e) = in_from_any (λ m. m == n) ms h in subst (λ (k : ℕ). In k ms) (eqb-true m n e) i

all_at : (f : ℕ → Bool) (ns : List ℕ) → list_all f ns ≡ true → (n : ℕ) → In n ns → f n ≡ true
all_at f [] h n i = absurd i
all_at f (m ∷ ns) h n (inl e) = subst (λ (k : ℕ). f k ≡ true) (sym e) (and_parts (f m) (list_all f ns) h).0
all_at f (m ∷ ns) h n (inr i) = all_at f ns (and_parts (f m) (list_all f ns) h).1 n i

all_of : (f : ℕ → Bool) (ns : List ℕ) → ((n : ℕ) → In n ns → f n ≡ true) → list_all f ns ≡ true
all_of f [] h = refl
all_of f (m ∷ ns) h = and_from (f m) (list_all f ns) (h m (inl refl)) (all_of f ns (λ n i. h n (inr i)))

side_in : (e : SideFormulas) (n : ℕ) → is_side e n ≡ true → In n (formulas e)
side_in Nothing n h = absurd (false≢true h)
side_in (One p) n h = inl (eqb-true n p h)
side_in (Two p q) n h = ⊎_elim (λ e. inl (eqb-true n p e)) (λ e. inr (inl (eqb-true n q e))) (or_cases (n == p) (n == q) h)

in_side : (e : SideFormulas) (n : ℕ) → In n (formulas e) → is_side e n ≡ true
in_side Nothing n i = absurd i
in_side (One p) n (inl e) = eq-eqb n p e
in_side (One p) n (inr i) = absurd i
in_side (Two p q) n (inl e) = or_left (n == p) (n == q) (eq-eqb n p e)
in_side (Two p q) n (inr (inl e)) = or_right (n == p) (n == q) (eq-eqb n q e)
in_side (Two p q) n (inr (inr i)) = absurd i

has_side_side_is : (e : SideFormulas) (ns : List ℕ) → Decides (has_side e ns) (Subset (formulas e) ns)
has_side_side_is Nothing ns = (λ _ n i. absurd i, λ _. refl)
has_side_side_is (One p) ns = (λ h n. ⊎_elim (λ e. subst (λ (k : ℕ). In k ns) (sym e) (in_from_among p ns h)) (λ i. absurd i), λ f. among_from_in p ns (f p (inl refl)))
has_side_side_is (Two p q) ns = (
  λ h n. let d = and_parts (among p ns) (among q ns) h in
      ⊎_elim (λ e. subst (λ (k : ℕ). In k ns) (sym e) (in_from_among p ns d.0)) (⊎_elim (λ e. subst (λ (k : ℕ). In k ns) (sym e) (in_from_among q ns d.1)) (λ i. absurd i)),
  λ f. and_from (among p ns) (among q ns) (among_from_in p ns (f p (inl refl))) (among_from_in q ns (f q (inr (inl refl)))),
)

pub covered_is : (e : SideFormulas) (ns ms : List ℕ) → Decides (covered e ns ms) (Subset (minus ns (formulas e)) ms)
covered_is e ns ms = (
  λ h n i. let d = minus_from n ns (formulas e) i in
      ⊎_elim (λ w. absurd (not_in n (formulas e) d.1 (side_in e n w))) (in_from_among n ms) (or_cases (is_side e n) (among n ms) (all_at (λ k. is_side e k || among k ms) ns h n d.0)),
  λ f. all_of (λ k. is_side e k || among k ms) ns λ n i.
      ⊎_elim (λ j. or_left (is_side e n) (among n ms) (in_side e n j)) (λ t. or_right (is_side e n) (among n ms) (among_from_in n ms (f n (minus_to n ns (formulas e) i t)))) (mem_in n (formulas e)),
)

rest_subset : (ns fs : List ℕ) → Subset (minus ns fs) ns
rest_subset ns fs k i = (minus_from k ns fs i).0

subset_append : (xs ys ns : List ℕ) → Subset xs ns → Subset ys ns → Subset (xs ++ ys) ns
subset_append xs ys ns f g k i = ⊎_elim (f k) (g k) (in_either k xs ys i)

empty_subset : (ns : List ℕ) → Subset [] ns
empty_subset ns k i = absurd i

subset_left : (xs ys ns : List ℕ) → Subset (xs ++ ys) ns → Subset xs ns
subset_left xs ys ns f k i = f k (in_left k xs ys i)

subset_right : (xs ys ns : List ℕ) → Subset (xs ++ ys) ns → Subset ys ns
subset_right xs ys ns f k i = f k (in_right k xs ys i)

same_context_is : (c d : SideFormulas) (ns ms : List ℕ) → Decides (same_context c ns d ms) (Subset (minus ns (formulas c)) ms × Subset (minus ms (formulas d)) ns)
same_context_is c d ns ms = Decides-and (covered c ns ms) (covered d ms ns) (covered_is c ns ms) (covered_is d ms ns)

-- what a sequent has beside its side formulas
abbrev rest : SideFormulas → Seq → List ℕ
rest e s = minus s.hypotheses (formulas e)

pub contexts_agree_is : (l : Line) (s : Seq) (ps : List Seq) → length ps ≤ 2 →
    Decides (contexts_agree l s ps) (T (fits (least (below l s ∷ above l ps) (s ∷ ps)) (below l s ∷ above l ps) (s ∷ ps)))
contexts_agree_is l s [] h = Decides-like (contexts_agree l s [])
    (λ f. fits_of (least (below l s ∷ []) (s ∷ [])) (below l s ∷ []) (s ∷ [])
    ((refl, f, subset_append (rest l.conclusion s) [] s.hypotheses (rest_subset s.hypotheses (formulas l.conclusion)) (empty_subset s.hypotheses)), tt))
    (λ t. (fits_by (least (below l s ∷ []) (s ∷ [])) (below l s ∷ []) (s ∷ []) t).0.1)
    (has_side_side_is l.conclusion s.hypotheses)
contexts_agree_is l s (p ∷ []) h = Decides-like (contexts_agree l s (p ∷ []))
    (λ t. fits_of (least (below l s ∷ above l (p ∷ [])) (s ∷ p ∷ [])) (below l s ∷ above l (p ∷ [])) (s ∷ p ∷ []) (
      (refl, t.0.0, both s.hypotheses (rest_subset s.hypotheses (formulas l.conclusion)) t.1.1),
      ((refl, t.0.1, both p.hypotheses t.1.0 (rest_subset p.hypotheses (formulas l.first))), tt),
    ))
    (λ t. let e = fits_by (least (below l s ∷ above l (p ∷ [])) (s ∷ p ∷ [])) (below l s ∷ above l (p ∷ [])) (s ∷ p ∷ []) t in
    ((e.0.1, e.1.0.1), (subset_left S (P ++ []) p.hypotheses e.1.0.2, subset_left P [] s.hypotheses (subset_right S (P ++ []) s.hypotheses e.0.2))))
    (Decides-and (has_side l.conclusion s.hypotheses && has_side l.first p.hypotheses) (same_context l.conclusion s.hypotheses l.first p.hypotheses)
    (Decides-and (has_side l.conclusion s.hypotheses) (has_side l.first p.hypotheses) (has_side_side_is l.conclusion s.hypotheses) (has_side_side_is l.first p.hypotheses))
    (same_context_is l.conclusion l.first s.hypotheses p.hypotheses))
  where
    S : List ℕ
    S = rest l.conclusion s

    P : List ℕ
    P = rest l.first p

    both : (ns : List ℕ) → Subset S ns → Subset P ns → Subset (S ++ (P ++ [])) ns
    both ns f g = subset_append S (P ++ []) ns f (subset_append P [] ns g (empty_subset ns))
contexts_agree_is l s (p ∷ q ∷ []) h = Decides-like (contexts_agree l s (p ∷ q ∷ []))
    (λ t. fits_of (least (below l s ∷ above l (p ∷ q ∷ [])) (s ∷ p ∷ q ∷ [])) (below l s ∷ above l (p ∷ q ∷ [])) (s ∷ p ∷ q ∷ []) (
      (refl, t.0.0.0, all s.hypotheses (rest_subset s.hypotheses (formulas l.conclusion)) t.1.0.0.1 t.1.0.1.1),
      (
        (refl, t.0.0.1, all p.hypotheses t.1.0.0.0 (rest_subset p.hypotheses (formulas l.first)) t.1.1.1),
        ((refl, t.0.1, all q.hypotheses t.1.0.1.0 t.1.1.0 (rest_subset q.hypotheses (formulas l.second))), tt),
      ),
    ))
    (λ t. let e = fits_by (least (below l s ∷ above l (p ∷ q ∷ [])) (s ∷ p ∷ q ∷ [])) (below l s ∷ above l (p ∷ q ∷ [])) (s ∷ p ∷ q ∷ []) t in (
      ((e.0.1, e.1.0.1), e.1.1.0.1),
      (
        ((one p.hypotheses e.1.0.2, two s.hypotheses e.0.2), (one q.hypotheses e.1.1.0.2, three s.hypotheses e.0.2)),
        (two q.hypotheses e.1.1.0.2, three p.hypotheses e.1.0.2),
      ),
    ))
    (Decides-and ((has_side l.conclusion s.hypotheses && has_side l.first p.hypotheses) && has_side l.second q.hypotheses)
    ((same_context l.conclusion s.hypotheses l.first p.hypotheses && same_context l.conclusion s.hypotheses l.second q.hypotheses) && same_context l.first p.hypotheses l.second q.hypotheses)
    (Decides-and (has_side l.conclusion s.hypotheses && has_side l.first p.hypotheses) (has_side l.second q.hypotheses)
    (Decides-and (has_side l.conclusion s.hypotheses) (has_side l.first p.hypotheses) (has_side_side_is l.conclusion s.hypotheses) (has_side_side_is l.first p.hypotheses)) (has_side_side_is l.second q.hypotheses))
    (Decides-and (same_context l.conclusion s.hypotheses l.first p.hypotheses && same_context l.conclusion s.hypotheses l.second q.hypotheses) (same_context l.first p.hypotheses l.second q.hypotheses)
    (Decides-and (same_context l.conclusion s.hypotheses l.first p.hypotheses) (same_context l.conclusion s.hypotheses l.second q.hypotheses)
    (same_context_is l.conclusion l.first s.hypotheses p.hypotheses) (same_context_is l.conclusion l.second s.hypotheses q.hypotheses))
    (same_context_is l.first l.second p.hypotheses q.hypotheses)))
  where
    S : List ℕ
    S = rest l.conclusion s

    P : List ℕ
    P = rest l.first p

    Q : List ℕ
    Q = rest l.second q

    all : (ns : List ℕ) → Subset S ns → Subset P ns → Subset Q ns → Subset (S ++ (P ++ (Q ++ []))) ns
    all ns f g i = subset_append S (P ++ (Q ++ [])) ns f (subset_append P (Q ++ []) ns g (subset_append Q [] ns i (empty_subset ns)))

    one : (ns : List ℕ) → Subset (S ++ (P ++ (Q ++ []))) ns → Subset S ns
    one ns f = subset_left S (P ++ (Q ++ [])) ns f

    two : (ns : List ℕ) → Subset (S ++ (P ++ (Q ++ []))) ns → Subset P ns
    two ns f = subset_left P (Q ++ []) ns (subset_right S (P ++ (Q ++ [])) ns f)

    three : (ns : List ℕ) → Subset (S ++ (P ++ (Q ++ []))) ns → Subset Q ns
    three ns f = subset_left Q [] ns (subset_right P (Q ++ []) ns (subset_right S (P ++ (Q ++ [])) ns f))
contexts_agree_is l s (p ∷ q ∷ r ∷ ps) h = absurd (omega arith)

-- absence, by the members
absent_at : (v : Vocabulary) (x : ℕ) (ns : List ℕ) → Absent v x ns → (n : ℕ) → In n ns → T (not (free v x n))
absent_at v x ns a n i = true_at (λ k. not (free v x k)) ns n a i

absent_from : (v : Vocabulary) (x : ℕ) (ns : List ℕ) → ((n : ℕ) → In n ns → T (not (free v x n))) → Absent v x ns
absent_from v x ns f = true_from (λ k. not (free v x k)) ns f

absent_is : (v : Vocabulary) (x : ℕ) (e : SideFormulas) (ns : List ℕ) → Decides (absent v x e ns) (Absent v x (minus ns (formulas e)))
absent_is v x e ns = (
  λ h. absent_from v x (minus ns (formulas e)) λ n i. let d = minus_from n ns (formulas e) i in
      ⊎_elim (λ w. absurd (not_in n (formulas e) d.1 (side_in e n w))) (is_so (not (free v x n)))
      (or_cases (is_side e n) (not (free v x n)) (all_at (λ k. is_side e k || not (free v x k)) ns h n d.0)),
  λ a. all_of (λ k. is_side e k || not (free v x k)) ns λ n i.
      ⊎_elim (λ j. or_left (is_side e n) (not (free v x n)) (in_side e n j))
      (λ t. or_right (is_side e n) (not (free v x n)) (is_true (not (free v x n)) (absent_at v x (minus ns (formulas e)) a n (minus_to n ns (formulas e) i t)))) (mem_in n (formulas e)),
)

absent_append : (v : Vocabulary) (x : ℕ) (xs ys : List ℕ) → Absent v x xs → Absent v x ys → Absent v x (xs ++ ys)
absent_append v x xs ys a b = absent_from v x (xs ++ ys) λ n i. ⊎_elim (absent_at v x xs a n) (absent_at v x ys b n) (in_either n xs ys i)

absent_left : (v : Vocabulary) (x : ℕ) (xs ys : List ℕ) → Absent v x (xs ++ ys) → Absent v x xs
absent_left v x xs ys a = absent_from v x xs λ n i. absent_at v x (xs ++ ys) a n (in_left n xs ys i)

absent_right : (v : Vocabulary) (x : ℕ) (xs ys : List ℕ) → Absent v x (xs ++ ys) → Absent v x ys
absent_right v x xs ys a = absent_from v x ys λ n i. absent_at v x (xs ++ ys) a n (in_right n xs ys i)

absent_from_all_is : (v : Vocabulary) (x : ℕ) (l : Line) (s : Seq) (ps : List Seq) → length ps ≤ 2 → Decides (absent_from_all v x l s ps) (Absent v x (least (below l s ∷ above l ps) (s ∷ ps)))
absent_from_all_is v x l s [] h = Decides-like (absent_from_all v x l s [])
    (λ a. absent_append v x (rest l.conclusion s) [] a tt) (λ a. absent_left v x (rest l.conclusion s) [] a) (absent_is v x l.conclusion s.hypotheses)
absent_from_all_is v x l s (p ∷ []) h = Decides-like (absent_from_all v x l s (p ∷ []))
    (λ a. absent_append v x (rest l.conclusion s) (rest l.first p ++ []) a.0 (absent_append v x (rest l.first p) [] a.1 tt))
    (λ a. (absent_left v x (rest l.conclusion s) (rest l.first p ++ []) a, absent_left v x (rest l.first p) [] (absent_right v x (rest l.conclusion s) (rest l.first p ++ []) a)))
    (Decides-and (absent v x l.conclusion s.hypotheses) (absent v x l.first p.hypotheses) (absent_is v x l.conclusion s.hypotheses) (absent_is v x l.first p.hypotheses))
absent_from_all_is v x l s (p ∷ q ∷ []) h = Decides-like (absent_from_all v x l s (p ∷ q ∷ []))
    (λ a. absent_append v x S (P ++ (Q ++ [])) a.0.0 (absent_append v x P (Q ++ []) a.0.1 (absent_append v x Q [] a.1 tt)))
    (λ a. let b = absent_right v x S (P ++ (Q ++ [])) a in ((absent_left v x S (P ++ (Q ++ [])) a, absent_left v x P (Q ++ []) b), absent_left v x Q [] (absent_right v x P (Q ++ []) b)))
    (Decides-and (absent v x l.conclusion s.hypotheses && absent v x l.first p.hypotheses) (absent v x l.second q.hypotheses)
    (Decides-and (absent v x l.conclusion s.hypotheses) (absent v x l.first p.hypotheses) (absent_is v x l.conclusion s.hypotheses) (absent_is v x l.first p.hypotheses))
    (absent_is v x l.second q.hypotheses))
  where
    S : List ℕ
    S = rest l.conclusion s

    P : List ℕ
    P = rest l.first p

    Q : List ℕ
    Q = rest l.second q
absent_from_all_is v x l s (p ∷ q ∷ r ∷ ps) h = absurd (omega arith)

pub fresh_absent_is : (v : Vocabulary) (f : Option ℕ) (l : Line) (s : Seq) (ps : List Seq) → length ps ≤ 2 →
    Decides (fresh_absent v f l s ps) (AllByRecursion (λ x. Absent v x (least (below l s ∷ above l ps) (s ∷ ps))) (fresh_variables f))
fresh_absent_is v None l s ps h = (λ _. tt, λ _. refl)
fresh_absent_is v (Some x) l s ps h = Decides-like (absent_from_all v x l s ps) (λ a. (a, tt)) (λ a. a.0) (absent_from_all_is v x l s ps h)
