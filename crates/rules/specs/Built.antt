-- A range of the table is a theory: the answers of the code decide its instances, and it is sound and regular.
use Rattle.std.specs.Prelude.{◌≡◌, ℕ, ◌-◌, ◌≤◌, false, List, length, Decides, ◌≢◌, slice_index}
use Rattle.std.proofs.Common.{sym, ◌∙◌, ap, arith}
use Rattle.std.proofs.lemmas.Bool.{false≢true, true≢false, cond_both, cond-false}
use Rattle.logic.specs.Formulas.{Vocabulary}
use Rattle.logic.specs.Meanings.{Sequent as Seq}
use Rattle.logic.specs.Rules.{Instance}
use Rattle.logic.specs.declared.rule.Rule.{Rule}
use Rattle.logic.proofs.Soundness.{sound}
use Rattle.logic.proofs.Tests.{is_true}
use Rattle.calculus.specs.Model.{seqs}
use Rattle.calculus.specs.Theories.{Sound, Regular}
use Rattle.calculus.specs.declared.sequent.Sequent.{Sequent}
use Rattle.calculus.specs.declared.step.Step.{Step}
use Rattle.rules.specs.Tables.{arities}
use Rattle.rules.specs.Theories.{built, within}
use Rattle.rules.specs.Answering.{other_count}
use Rattle.rules.specs.TablesLemmas.{few}

module _ (low high : ℕ) (v : Vocabulary) (x : Step) (s : Seq) (xs : List Sequent) where
  abbrev Judged : Type 0
  Judged = (built low high).instance v x s (seqs xs)

  -- where the step has another number of premises than its rule takes
  pub count_answer : (length xs ≢ slice_index arities (x.rule - 1)) → Decides false Judged
  count_answer f = (
    λ e. absurd (false≢true e),
    λ (k, d). absurd (other_count v d.0 x.a x.b x.c s xs (λ n. f (n ∙ ap (λ (m : ℕ). slice_index arities (m - 1)) d.1)) d.2),
  )

pub built_sound : (low high : ℕ) → Sound (built low high)
built_sound low high v wf x s ps i valid = sound v wf i.1.0 x.a x.b x.c ps s i.1.2 valid

pub built_regular : (low high : ℕ) → Regular (built low high)
built_regular low high = record {
  few = λ r. cond_both (within low high r) (slice_index arities (r - 1)) 0 (λ k. k ≤ 2) (λ _. few (r - 1)) (λ _. omega arith);
  none = λ r e. cond-false (within low high r) (slice_index arities (r - 1)) 0 e;
  never = λ w x s ps e i. true≢false (sym (is_true (within low high x.rule) i.0) ∙ e);
}
