-- The worked derivations, computed.
use Rattle.std.proofs.Common.{◌≡◌, ℕ, zero, suc, ◌+◌, ◌<◌, Bool, true, not, ◌&&◌, T, ltb, List, [], ◌∷◌, sym, refl, subst, inl, inr, ⊎_elim, arith, lit<, lit≤, ltb→lt}
use Rattle.std.specs.List.{AllZip, AllByRecursion}
use Rattle.logic.specs.Formulas.{forall, bind, node, free, ask, descend}
use Rattle.logic.specs.Examples.{example}
use Rattle.logic.specs.Meanings.{Sequent as Seq}
use Rattle.logic.specs.Rules.{◌⊢◌, Absent, Form, hyp, imp_l, all_l, all_r, Made, Instance}
use Rattle.logic.specs.declared.rule.Rule.{Rule}
use Rattle.logic.specs.declared.rule.Rule.TheVariants.{Hyp, ImpL, AllL, AllR}
use Rattle.logic.proofs.Comparing.{instance_by_sets}
use Rattle.logic.proofs.Examples.{worked_example_stands}
use Rattle.logic.proofs.Soundness.{true_at}
use Rattle.logic.proofs.Tests.{and_left, and_right}
use Rattle.calculus.specs.Derivations.{at, InRange, Shaped, Earlier, Judged, Passes, Right, RightBelow}
use Rattle.calculus.specs.Refusals.{number}
use Rattle.calculus.specs.declared.refusal.Fault.{Fault}
use Rattle.calculus.specs.declared.refusal.Fault.TheVariants.{Size, Range, NotASequent, UnknownRule, LatePremise, NoInstance}
use Rattle.calculus.specs.declared.step.Step.{Step}
use Rattle.calculus.specs.Rising.{Rising}
use Rattle.questions.proofs.Reckoned as vocabulary
use Rattle.rules.specs.Examples.{right_steps, right_list, wrong_steps, wrong_list, WorkedExample}
use Rattle.rules.specs.Theories.{standard}
use Rattle.rules.specs.TablesLemmas.{one_number}

abbrev rises : List ℕ → Bool
rises [] = true
rises (x ∷ []) = true
rises (x ∷ y ∷ xs) = ltb x y && rises (y ∷ xs)

rising : (xs : List ℕ) → T (rises xs) → Rising xs
rising [] t k h = absurd (omega arith)
rising (x ∷ []) t k h = absurd (omega arith)
rising (x ∷ y ∷ xs) t zero h = ltb→lt x y (and_left (ltb x y) (rises (y ∷ xs)) t)
rising (x ∷ y ∷ xs) t (suc k) h =
    let e : suc k + 1 ≡ suc (k + 1) = omega arith in
    rw e (rising (y ∷ xs) (and_right (ltb x y) (rises (y ∷ xs)) t) k (omega arith))

hyp_step : Instance example Hyp 0 0 0 [] (4 ∷ 6 ∷ 7 ∷ [] ⊢ 7)
hyp_step = (instance_by_sets example Hyp 0 0 0 [] (4 ∷ 6 ∷ 7 ∷ [] ⊢ 7)).1 ([], [], 7 ∷ [] ⊢ 7, hyp, tt, tt)

imp_step : Instance example ImpL 8 0 0 ((4 ∷ 6 ∷ 7 ∷ [] ⊢ 7) ∷ []) (4 ∷ 6 ∷ 8 ∷ [] ⊢ 7)
unfolding node
imp_step = (instance_by_sets example ImpL 8 0 0 ((4 ∷ 6 ∷ 7 ∷ [] ⊢ 7) ∷ []) (4 ∷ 6 ∷ 8 ∷ [] ⊢ 7)).1
    ([], (6 ∷ 7 ∷ [] ⊢ 7) ∷ [], 6 ∷ 8 ∷ [] ⊢ 7, imp_l refl, tt, tt)

all_step : Instance example AllL 4 5 8 ((4 ∷ 6 ∷ 8 ∷ [] ⊢ 7) ∷ []) (4 ∷ 6 ∷ [] ⊢ 7)
unfolding node
all_step = (instance_by_sets example AllL 4 5 8 ((4 ∷ 6 ∷ 8 ∷ [] ⊢ 7) ∷ []) (4 ∷ 6 ∷ [] ⊢ 7)).1
    ([], (4 ∷ 8 ∷ [] ⊢ 7) ∷ [], 4 ∷ [] ⊢ 7, all_l refl worked_example_stands.4, tt, tt)

own_step : Instance example Hyp 0 0 0 [] (1 ∷ [] ⊢ 1)
own_step = (instance_by_sets example Hyp 0 0 0 [] (1 ∷ [] ⊢ 1)).1 ([], [], 1 ∷ [] ⊢ 1, hyp, tt, tt)

-- variable 1 is free in formula 1
not_absent : T (not (free example 1 1)) → ⊥
unfolding free ask descend node
not_absent t = t

no_form : (H : List ℕ) {fresh : List ℕ} {above : List Seq} {below : Seq} → Form example 0 0 0 AllR fresh above below →
    AllByRecursion (λ x. Absent example x H) fresh → AllZip (Made H) (below ∷ above) ((1 ∷ [] ⊢ 9) ∷ (1 ∷ [] ⊢ 1) ∷ []) → ⊥
unfolding node
no_form H (all_r {n} {p} {x} e) (absent, _) ((i, m), _) =
    let q : node example 9 ≡ bind forall x p = subst (λ k. node example k ≡ bind forall x p) (sym i) e in
    let r : x ≡ 1 = cc in
    not_absent (true_at (λ n. not (free example 1 n)) H 1 (subst (λ k. Absent example k H) r absent) (⊎_elim (λ j. j) (λ j. absurd j) ((m 1).0 (inl refl))))

no_step : Instance example AllR 0 0 0 ((1 ∷ [] ⊢ 1) ∷ []) (1 ∷ [] ⊢ 9) → ⊥
no_step (H, fresh, above, below, form, absent, made) = no_form H form absent made

shaped_0 : Shaped example right_list (at right_steps 0)
unfolding node
shaped_0 = (rising (4 ∷ 6 ∷ 7 ∷ []) tt, ((lit< tt, tt), ((lit< tt, tt), ((lit< tt, tt), tt))), (lit< tt, tt))

shaped_1 : Shaped example right_list (at right_steps 1)
unfolding node
shaped_1 = (rising (4 ∷ 6 ∷ 8 ∷ []) tt, ((lit< tt, tt), ((lit< tt, tt), ((lit< tt, tt), tt))), (lit< tt, tt))

shaped_2 : Shaped example right_list (at right_steps 2)
unfolding node
shaped_2 = (rising (4 ∷ 6 ∷ []) tt, ((lit< tt, tt), ((lit< tt, tt), tt)), (lit< tt, tt))

wrong_shaped_0 : Shaped example wrong_list (at wrong_steps 0)
unfolding node
wrong_shaped_0 = (rising (1 ∷ []) tt, ((lit< tt, tt), tt), (lit< tt, tt))

wrong_shaped_1 : Shaped example wrong_list (at wrong_steps 1)
unfolding node
wrong_shaped_1 = (rising (1 ∷ []) tt, ((lit< tt, tt), tt), (lit< tt, tt))

-- a step is right by the five checks of a step
right_by : (xs : List Step) (hs : List ℕ) (i : ℕ) (x : Step) → InRange hs x → Shaped example hs x → standard.known x.rule ≡ true → Earlier (standard.arity x.rule) i x → Judged standard example xs hs x →
    Right standard example xs hs i x
right_by xs hs i x r s k e j Size = tt
right_by xs hs i x r s k e j Range = r
right_by xs hs i x r s k e j NotASequent = s
right_by xs hs i x r s k e j UnknownRule = k
right_by xs hs i x r s k e j LatePremise = e
right_by xs hs i x r s k e j NoInstance = j

right : RightBelow standard example right_steps right_list 3
right zero h = right_by right_steps right_list 0 (at right_steps 0) (lit≤ tt, lit≤ tt) shaped_0 refl (λ l. absurd (omega arith), λ l. absurd (omega arith)) (tt, (Hyp, refl, hyp_step))
right (suc zero) h = right_by right_steps right_list 1 (at right_steps 1) (lit≤ tt, lit≤ tt) shaped_1 refl (λ l. lit< tt, λ l. absurd (omega arith)) (tt, (ImpL, refl, imp_step))
right (suc (suc zero)) h = right_by right_steps right_list 2 (at right_steps 2) (lit≤ tt, lit≤ tt) shaped_2 refl (λ l. lit< tt, λ l. absurd (omega arith)) (tt, (AllL, refl, all_step))
right (suc (suc (suc i))) h = absurd (omega arith)

wrong_right : RightBelow standard example wrong_steps wrong_list 1
wrong_right zero h = right_by wrong_steps wrong_list 0 (at wrong_steps 0) (lit≤ tt, lit≤ tt) wrong_shaped_0 refl (λ l. absurd (omega arith), λ l. absurd (omega arith)) (tt, (Hyp, refl, own_step))
wrong_right (suc i) h = absurd (omega arith)

not_judged : Judged standard example wrong_steps wrong_list (at wrong_steps 1) → ⊥
not_judged (t, d) = no_step (subst (λ (r : Rule). Instance example r 0 0 0 ((1 ∷ [] ⊢ 1) ∷ []) (1 ∷ [] ⊢ 9)) (one_number d.0 AllR d.1) d.2)

wrong_before : (f : Fault) → number f < 25 → Passes f standard example wrong_steps wrong_list 1 (at wrong_steps 1)
wrong_before Size l = tt
wrong_before Range l = (lit≤ tt, lit≤ tt)
wrong_before NotASequent l = wrong_shaped_1
wrong_before UnknownRule l = refl
wrong_before LatePremise l = (λ k. lit< tt, λ k. absurd (omega arith))
wrong_before NoInstance l = absurd (omega arith)

pub worked_example : WorkedExample
worked_example = (
  vocabulary.worked_example,
  ((lit< tt, lit≤ tt, lit≤ tt), right),
  refl,
  inr ((lit< tt, lit≤ tt, lit≤ tt), lit< tt, wrong_right, (wrong_before, not_judged)),
)
