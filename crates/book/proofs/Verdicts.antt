-- A derivation has one verdict.
use Rattle.std.proofs.Common.{◌≡◌, ℕ, List, Ok, Err, Result, sym, ap, ◌∙◌, inl, inr, arith}
use Rattle.std.proofs.lemmas.Bool.{false≢true}
use Rattle.logic.specs.Formulas.{Vocabulary}
use Rattle.logic.specs.Meanings.{Sequent as Seq}
use Rattle.calculus.specs.declared.step.Step.{Step}
use Rattle.calculus.specs.declared.refusal.Refusal.{Refusal as DerivationRefusal}
use Rattle.calculus.specs.Theories.{Meaning}
use Rattle.calculus.specs.Derivations.{RightDerivation, FirstFault}
use Rattle.calculus.proofs.Verdicts.{refused}
use Rattle.book.specs.Concluding.{Judges}

un_err : {A B : Type 0} (x y : B) → ◌≡◌ {A = Result A B} (Err x) (Err y) → x ≡ y
un_err x y e = cc

module _ (m : Meaning) (v : Vocabulary) (xs : List Step) (hs : List ℕ) where
  not_right : (e : DerivationRefusal) → FirstFault e m v xs hs → RightDerivation m v xs hs → ⊥
  not_right e f r = false≢true ((refused m v xs hs {S = Seq} e f).0.1 r)

  one_fault : (e d : DerivationRefusal) → FirstFault e m v xs hs → FirstFault d m v xs hs → e ≡ d
  one_fault e d f g = un_err {A = Seq} e d (((refused m v xs hs {S = Seq} e f).1 d).1 g)

  pub one_verdict : (cites : List ℕ) (a b : Result Seq DerivationRefusal) → Judges m v xs hs cites a → Judges m v xs hs cites b → a ≡ b
  one_verdict cites (Ok s) (Ok t) (k, r, p) (l, q, o) = ap Ok (p ∙ sym o)
  one_verdict cites (Ok s) (Err e) (k, r, p) (inl (l, i)) = absurd (omega arith)
  one_verdict cites (Ok s) (Err e) (k, r, p) (inr (l, f)) = absurd (not_right e f r)
  one_verdict cites (Err e) (Ok t) (inl (k, i)) (l, q, o) = absurd (omega arith)
  one_verdict cites (Err e) (Ok t) (inr (k, f)) (l, q, o) = absurd (not_right e f q)
  one_verdict cites (Err e) (Err d) (inl (k, i)) (inl (l, j)) = ap Err (i ∙ sym j)
  one_verdict cites (Err e) (Err d) (inl (k, i)) (inr (l, g)) = absurd (omega arith)
  one_verdict cites (Err e) (Err d) (inr (k, f)) (inl (l, j)) = absurd (omega arith)
  one_verdict cites (Err e) (Err d) (inr (k, f)) (inr (l, g)) = ap Err (one_fault e d f g)
  -- what the checker answers is the verdict
