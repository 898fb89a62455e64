-- An array made by calls of a closure that changes nothing.
use Rattle.std.proofs.Common.{◌≡◌, ℕ, zero, suc, ◌+◌, ◌<◌, ◌≤◌, List, get_or, subst, arith, ◌∙◌, ⊎_elim}
use Rattle.std.proofs.lemmas.Bool.{cases_lt}
use Rattle.std.specs.Array.{IsFromFnResultFrom}
use Rattle.std.specs.Fn.{Called}
use denote.Param.Members.{Mut}

pub made_at : {F B : Type 0} (g : Mut F (ℕ × Unit {0}) B) (f : F) (made : ℕ → B) → ((k : ℕ) (y : B) (q : F) → Called g f (k, tt) y q → (q ≡ f) × (y ≡ made k)) →
    (ys : List B) (i n : ℕ) → IsFromFnResultFrom g f ys i n → (k : ℕ) (d : B) → i ≤ k → k < i + n → get_or ys k d ≡ made k
made_at {F = F} g f made is ys i zero each k d l h = absurd (omega arith)
made_at {F = F} g f made is ys i (suc n) (q, y, at, called, rest) k d l h =
    let (same, here) = is i y q called in
    ⊎_elim
    (λ (m : i < k). made_at g f made is ys (i + 1) n (subst (λ (p : F). IsFromFnResultFrom g p ys (i + 1) n) same rest) k d (omega arith) (omega arith))
    (λ (m : k ≤ i). let e : i ≡ k = omega arith in subst (λ (j : ℕ). get_or ys j d ≡ made j) e (at.1 d ∙ here))
    (cases_lt i k)
