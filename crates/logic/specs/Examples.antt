-- A vocabulary reckoned by hand: one carrier; variables m, c, d; sets senior, reduce; and what is so of it.
use Rattle.std.specs.Prelude.{◌≡◌, true, false, [], ◌∷◌}
use Rattle.logic.specs.Formulas.{implies, forall, exists, variable, negation, join, bind, equal, member, carrier, Vocabulary, free, IsSubstitution, weight, depth}

abbrev pub example : Vocabulary
example = record {
  types = carrier ∷ [];
  variables = 0 ∷ 0 ∷ 0 ∷ [];
  sets = 0 ∷ 0 ∷ [];
  formulas = variable 1 ∷ member 0 0 ∷ member 0 1 ∷ join implies 1 2 ∷ bind forall 1 3 ∷ variable 0 ∷ member 5 0 ∷ member 5 1 ∷ join implies 6 7 ∷
      bind forall 1 1 ∷ variable 2 ∷ equal 10 0 ∷ negation 11 ∷ bind exists 2 12 ∷ equal 10 10 ∷ negation 14 ∷ bind exists 2 15 ∷ [];
}

-- formula 4 has weight 6 and depth 4; variable 1 is free in 3 and not in 4; 8 is 3 with 5 for variable 1;
-- 16 is not 13 with 10 for variable 1, since d would become bound
abbrev pub WorkedExample : Type 0
WorkedExample = (weight example 4 ≡ 6) × (depth example 4 ≡ 4) × (free example 1 3 ≡ true) × (free example 1 4 ≡ false) ×
    IsSubstitution example 8 1 5 3 × (IsSubstitution example 16 1 10 13 → ⊥)
