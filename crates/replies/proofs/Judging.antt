-- What the checker answered, as a reply.
use Rattle.std.proofs.Common.{◌≡◌, ℕ, ◌↔◌, List, is_ok, Ok, Err, Decides, Result, refl, ap, ap₂, inl, inr}
use Rattle.calculus.specs.declared.refusal.Fault.{Fault}
use Rattle.calculus.specs.declared.refusal.Refusal.{Refusal}
use Rattle.calculus.specs.declared.sequent.Sequent.{Sequent}
use Rattle.calculus.specs.declared.step.Step.{Step}
use Rattle.calculus.specs.Derivations.{RightDerivation, FirstFault}
use Rattle.calculus.specs.Refusals.{notice}
use Rattle.calculus.proofs.Verdicts.{one_number}
use Rattle.rules.specs.Theories.{standard}
use Rattle.replies.specs.declared.reply.Reply.{Reply}
use Rattle.replies.specs.declared.reply.Reply.TheVariants.{Refused}
use Rattle.book.specs.Books.{Model}
use Rattle.replies.specs.Books.{verdict, Verdict}

-- a refusal is known by its notice
one_notice : (d e : Refusal) → notice d ≡ notice e → d ≡ e
one_notice d e h =
    ap₂ (λ (f : Fault) (i : ℕ). record { fault = f; step = i }) (one_number d.fault e.fault (ap (λ n. n.number) h)) (ap (λ n. n.place) h)

same_refusal : (d e : Refusal) → ◌≡◌ {A = Reply} (Refused (notice d)) (Refused (notice e)) → d ≡ e
same_refusal d e h = one_notice d e (cc)

same_error : (d e : Refusal) → ◌≡◌ {A = Result Sequent Refusal} (Err d) (Err e) → d ≡ e
same_error d e h = cc

module _ (b : Model) (xs : List Step) (hs : List ℕ) where
  pub judged : (o : Result Sequent Refusal) → Decides (is_ok o) (RightDerivation standard b.vocabulary xs hs) → ((e : Refusal) → (o ≡ Err e) ↔ FirstFault e standard b.vocabulary xs hs) → Verdict b xs hs (verdict o)
  judged (Ok s) a f =
      record {
        either = inl refl;
        right = (λ _. a.0 refl, λ _. refl);
        refused = λ e. (λ h. cc, λ g. let z = (f e).1 g in cc);
      }
  judged (Err d) a f =
      record {
        either = inr (d, refl);
        right = (λ h. cc, λ r. let t = a.1 r in cc);
        refused = λ e. (λ h. (f e).0 (ap Err (same_refusal d e h)), λ g. ap (λ k. Refused (notice k)) (same_error d e ((f e).1 g)));
      }
