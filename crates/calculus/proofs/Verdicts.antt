-- A derivation is right or has one first fault, and not both.
use Rattle.std.proofs.Common.{◌≡◌, ℕ, ◌-◌, ◌↔◌, List, [], ◌∷◌, get_or, is_ok, Err, Decides, Result, sym, refl, ap, ◌∙◌, subst, ap₂, inl, inr, ⊎_elim, arith}
use Rattle.std.proofs.lemmas.Bool.{cases_lt, false≢true}
use Rattle.logic.specs.Formulas.{Vocabulary}
use Rattle.calculus.specs.declared.step.Step.{Step}
use Rattle.calculus.specs.declared.refusal.Fault.{Fault}
use Rattle.calculus.specs.declared.refusal.Fault.TheVariants.{Size, Range, NotASequent, UnknownRule, LatePremise, NoInstance}
use Rattle.calculus.specs.declared.refusal.Refusal.{Refusal}
use Rattle.calculus.specs.Refusals.{number}
use Rattle.calculus.specs.Theories.{Meaning}
use Rattle.calculus.specs.Derivations.{at, Fails, RightBelow, RightDerivation, FirstFault}

-- a fault is known by its number
numbered : ℕ → Fault
numbered n = get_or (Size ∷ Range ∷ NotASequent ∷ UnknownRule ∷ LatePremise ∷ NoInstance ∷ []) (n - 20) Size

numbered_back : (f : Fault) → numbered (number f) ≡ f
unfolding numbered
numbered_back Size = refl
numbered_back Range = refl
numbered_back NotASequent = refl
numbered_back UnknownRule = refl
numbered_back LatePremise = refl
numbered_back NoInstance = refl

pub one_number : (f g : Fault) → number f ≡ number g → f ≡ g
one_number f g e = sym (numbered_back f) ∙ (ap numbered e ∙ numbered_back g)

module _ (m : Meaning) (v : Vocabulary) (xs : List Step) (hs : List ℕ) where
  -- a step has one first fault
  one_fault : (f g : Fault) (i j : ℕ) → i ≡ j → Fails f m v xs hs i (at xs i) → Fails g m v xs hs j (at xs j) → f ≡ g
  one_fault f g i j e p q =
      let q' : Fails g m v xs hs i (at xs i) = subst (λ k. Fails g m v xs hs k (at xs k)) (sym e) q in
      one_number f g (⊎_elim (λ h. absurd (p.1 (q'.0 f h))) (λ h. ⊎_elim (λ l. absurd (q'.1 (p.0 g l))) (λ l. omega arith) (cases_lt (number g) (number f))) (cases_lt (number f) (number g)))

  -- and no two steps are the first that is not right
  one_step : (f g : Fault) (i j : ℕ) → RightBelow m v xs hs i → RightBelow m v xs hs j → Fails f m v xs hs i (at xs i) → Fails g m v xs hs j (at xs j) → i ≡ j
  one_step f g i j b c p q =
      ⊎_elim (λ h. absurd (p.1 (c i h f))) (λ h. ⊎_elim (λ l. absurd (q.1 (b j l g))) (λ l. omega arith) (cases_lt j i)) (cases_lt i j)

  one_refusal : (e d : Refusal) → FirstFault e m v xs hs → FirstFault d m v xs hs → e ≡ d
  one_refusal e d (inl (i, n)) (inl (j, _)) = i ∙ sym j
  one_refusal e d (inl (i, n)) (inr (s, _, _, _)) = absurd (n s)
  one_refusal e d (inr (s, _, _, _)) (inl (i, n)) = absurd (n s)
  one_refusal e d (inr (_, _, b, p)) (inr (_, _, c, q)) =
      let same = one_step e.fault d.fault e.step d.step b c p q in
      ap₂ (λ (f : Fault) (i : ℕ). record { fault = f; step = i }) (one_fault e.fault d.fault e.step d.step same p q) same

  not_right : (e : Refusal) → FirstFault e m v xs hs → RightDerivation m v xs hs → ⊥
  not_right e (inl (_, n)) (s, _) = n s
  not_right e (inr (_, l, _, p)) (_, r) = p.1 (r e.step l e.fault)

  module _ {S : Type 0} where
    abbrev Verdict : Result S Refusal → Type 0
    Verdict r = Decides (is_ok r) (RightDerivation m v xs hs) × ((d : Refusal) → (r ≡ Err d) ↔ FirstFault d m v xs hs)

    pub refused : (e : Refusal) → FirstFault e m v xs hs → Verdict (Err e)
    refused e f = (
      (λ h. absurd (false≢true h), λ r. absurd (not_right e f r)),
      λ d. (λ h. let same : e ≡ d = cc in subst (λ (k : Refusal). FirstFault k m v xs hs) same f, λ g. ap Err (one_refusal e d f g)),
    )
