-- Two sound theories joined are sound, and two regular ones regular.
use Rattle.std.specs.Prelude.{◌≡◌, ◌≤◌, Bool, true, false, MatchBool}
use Rattle.std.proofs.Common.{◌∙◌}
use Rattle.std.proofs.lemmas.Bool.{cond_both, or_parts, cond-false, true≢false}
use Rattle.std.specs.List.{AllByRecursion}
use Rattle.logic.specs.Meanings.{Valid}
use Rattle.calculus.specs.Theories.{Meaning, Sound, Regular, joined}

either : (b : Bool) (P Q R : Type 0) → (P → R) → (Q → R) → MatchBool b P Q → R
either true P Q R f g h = f h
either false P Q R f g h = g h

pub joined_sound : (m n : Meaning) → Sound m → Sound n → Sound (joined m n)
joined_sound m n f g w wf x s ps =
    either (m.known x.rule) (m.instance w x s ps) (n.instance w x s ps) (AllByRecursion (Valid w) ps → Valid w s) (f w wf x s ps) (g w wf x s ps)

unknown : (b : Bool) (P Q : Type 0) → b ≡ false → (Q → ⊥) → MatchBool b P Q → ⊥
unknown true P Q e g h = true≢false e
unknown false P Q e g h = g h

pub joined_regular : (m n : Meaning) → Regular m → Regular n → Regular (joined m n)
joined_regular m n f g = record {
  few = λ r. cond_both (m.known r) (m.arity r) (n.arity r) (λ k. k ≤ 2) (λ _. f.few r) (λ _. g.few r);
  none = λ r e. let p = or_parts (m.known r) (n.known r) e in cond-false (m.known r) (m.arity r) (n.arity r) p.0 ∙ g.none r p.1;
  never = λ w x s ps e. let p = or_parts (m.known x.rule) (n.known x.rule) e in
      unknown (m.known x.rule) (m.instance w x s ps) (n.instance w x s ps) p.0 (g.never w x s ps p.1);
}
