-- In a derivation whose steps are right, every sequent is valid, for every sound theory.
use Rattle.std.proofs.Common.{ℕ, zero, suc, ◌-◌, ◌<◌, List, not-suc-le-zero, arith}
use Rattle.logic.specs.Formulas.{Vocabulary, WellFormed}
use Rattle.std.specs.List.{AllByRecursion}
use Rattle.logic.specs.Meanings.{Valid}
use Rattle.calculus.specs.Theories.{Meaning, Sound}
use Rattle.calculus.specs.declared.step.Step.{Step}
use Rattle.calculus.specs.declared.refusal.Fault.TheVariants.{LatePremise, NoInstance}
use Rattle.calculus.specs.Derivations.{at, sequent, premises, Earlier, RightBelow}

module _ (m : Meaning) (sound : Sound m) (w : Vocabulary) (wf : WellFormed w) (xs : List Step) (hs : List ℕ) where
  valid_premises : (k : ℕ) (x : Step) (i : ℕ) → Earlier k i x → ((j : ℕ) → j < i → Valid w (sequent hs (at xs j))) → AllByRecursion (Valid w) (premises k xs hs x)
  valid_premises zero x i e f = tt
  valid_premises (suc zero) x i e f = (f x.first (e.0 (omega arith)), tt)
  valid_premises (suc (suc k)) x i e f = (f x.first (e.0 (omega arith)), (f x.second (e.1 (omega arith)), tt))

  -- by induction on a bound
  below : (n : ℕ) → RightBelow m w xs hs n → (j : ℕ) → j < n → Valid w (sequent hs (at xs j))
  below zero r j h = absurd (not-suc-le-zero h)
  below (suc n) r j h =
      let earlier : (k : ℕ) → k < n → Valid w (sequent hs (at xs k)) = below n (λ i l. r i (omega arith)) in
      let here = r j h in
      sound w wf (at xs j) (sequent hs (at xs j)) (premises (m.arity (at xs j).rule) xs hs (at xs j)) (here NoInstance)
      (valid_premises (m.arity (at xs j).rule) (at xs j) j (here LatePremise) (λ k l. earlier k (omega arith)))

  pub root_valid : (n : ℕ) → RightBelow m w xs hs n → 0 < n → Valid w (sequent hs (at xs (n - 1)))
  root_valid n r h = below n r (n - 1) (omega arith)
