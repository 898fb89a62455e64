-- The rule for ⊤ is sound.
use Rattle.std.specs.Prelude.{◌≡◌, ℕ, Bool, ◌&&◌, T, length, Decides, ◌==◌, refl}
use Rattle.std.proofs.Common.{sym, ◌∙◌, ap, subst, arith}
use Rattle.logic.specs.Formulas.{Vocabulary, node, truth}
use Rattle.logic.specs.Meanings.{holds, refuted, true_in}
use Rattle.logic.specs.Deciding.{knows_formula}
use Rattle.logic.proofs.Tests.{and_left, and_right, is_true, or_left}
use Rattle.logic.proofs.Coincidence.{reads}
use Rattle.formulas.specs.declared.kinds.Kind.TheVariants.{True}
use Rattle.formulas.specs.Records.{entry, record_of, same_record, shape_of, has_record}
use Rattle.formulas.proofs.Shapes.{forth, same_means}
use Rattle.std.proofs.lemmas.Bool.{false≢true}
use Rattle.calculus.specs.Theories.{Sound, Regular}
use Rattle.calculus_tests.specs.Truth.{truth_rule}

-- a formula with the record of ⊤ is ⊤
top : (v : Vocabulary) (n : ℕ) → T (has_record v n (entry True 0 0)) → node v n ≡ truth
top v n t =
    let same = (same_means (entry True 0 0) (record_of (node v n))).0 (and_right (knows_formula v n) (same_record (entry True 0 0) (record_of (node v n))) t) in
    forth (node v n) ∙ ap shape_of same

pub truth_sound : Sound truth_rule
truth_sound v wf x s ps t valid w f i =
    let h = and_right (x.rule == 100 && length ps == 0) (has_record v s.goal (entry True 0 0)) t in
    let e = reads v wf.formulas_fall w s.goal f (top v s.goal h) in
    or_left (true_in v w f s.goal) (refuted (true_in v w f) s.hypotheses) (subst (λ u. T (holds u)) (sym e) tt)

pub truth_regular : Regular truth_rule
truth_regular = record {
  few = λ r. omega arith;
  none = λ r e. refl;
  never = λ v x s ps e t.
      let known = and_left (x.rule == 100) (length ps == 0) (and_left (x.rule == 100 && length ps == 0) (has_record v s.goal (entry True 0 0)) t) in
      false≢true (sym e ∙ is_true (x.rule == 100) known);
}

-- a test that is answered decides what it tests
pub decides_test : (b t : Bool) → b ≡ t → Decides b (T t)
decides_test b t e = (λ h. subst T (sym h ∙ e) tt, λ h. e ∙ is_true t h)
