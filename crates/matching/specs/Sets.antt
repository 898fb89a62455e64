-- Tests on the hypotheses of a sequent and its side formulas.
use Rattle.std.specs.Prelude.{ℕ, Bool, true, false, not, ◌&&◌, ◌||◌, List, [], ◌∷◌, ◌==◌}
use Rattle.std.specs.List.{list_all, list_any}
use Rattle.logic.specs.Formulas.{Vocabulary, free}
use Rattle.matching.specs.declared.side.SideFormulas.{SideFormulas}
use Rattle.matching.specs.declared.side.SideFormulas.TheVariants.{Nothing, One, Two}

abbrev pub formulas : SideFormulas → List ℕ
formulas Nothing = []
formulas (One p) = p ∷ []
formulas (Two p q) = p ∷ q ∷ []

-- n is one of ns
abbrev pub among : ℕ → List ℕ → Bool
among n = list_any (λ m. m == n)

-- all of the side formulas are among ns
abbrev pub has_side : SideFormulas → List ℕ → Bool
has_side Nothing ns = true
has_side (One p) ns = among p ns
has_side (Two p q) ns = among p ns && among q ns

abbrev pub is_side : SideFormulas → ℕ → Bool
is_side Nothing n = false
is_side (One p) n = n == p
is_side (Two p q) n = n == p || n == q

-- all that ns has beside the side formulas is among ms
abbrev pub covered : SideFormulas → List ℕ → List ℕ → Bool
covered c ns ms = list_all (λ n. is_side c n || among n ms) ns

-- ns, with the side formulas c, and ms, with d, can have one context
abbrev pub same_context : SideFormulas → List ℕ → SideFormulas → List ℕ → Bool
same_context c ns d ms = covered c ns ms && covered d ms ns

-- x is free in none of ns beside the side formulas
abbrev pub absent : Vocabulary → ℕ → SideFormulas → List ℕ → Bool
absent v x c ns = list_all (λ n. is_side c n || not (free v x n)) ns
