use Rattle.std.proofs.Common.{◌≡◌, ℕ, true, false, is_some, Some, None, MatchOption, Option, unwrap_or, refl, subst}
use Rattle.matching.specs.Reading.{has_number, number_of}
use Rattle.matching.proofs.reading.number_of.Goals as goal

answered : (o : Option ℕ) → MatchOption o (is_some o ≡ false) (λ n. (is_some o ≡ true) × (n ≡ unwrap_or o 0))
answered None = refl
answered (Some n) = (refl, refl)

pub returns : goal.returns
unfolding has_number number_of
returns c =
    subst (λ (o : Option ℕ). MatchOption c.formula_number.result (is_some o ≡ false) (λ n. (is_some o ≡ true) × (n ≡ unwrap_or o 0)))
    c.formula_number.ensures (answered c.formula_number.result)
