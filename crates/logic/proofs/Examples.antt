-- The example, computed.
use Rattle.std.proofs.Common.{◌≡◌, true, false, refl, inr, ⊎_elim, lit<}
use Rattle.logic.specs.Formulas.{node, variable_type, sort, free, weight, depth, HasType, Substituted, IsSubstitution, ask, descend}
use Rattle.logic.specs.Examples.{example, WorkedExample}

weighed : weight example 4 ≡ 6
unfolding weight ask descend node
weighed = refl

deep : depth example 4 ≡ 4
unfolding depth ask descend node
deep = refl

one : free example 1 3 ≡ true
unfolding free ask descend node
one = refl

two : free example 1 4 ≡ false
unfolding free ask descend node
two = refl

three : IsSubstitution example 8 1 5 3
unfolding free ask descend node HasType variable_type sort Substituted
three = (lit< tt, lit< tt, (lit< tt, refl), inr (tt, (6, 7, refl, inr (tt, (5, refl, inr (tt, refl))), inr (tt, (5, refl, inr (tt, refl))))))

four : IsSubstitution example 16 1 10 13 → ⊥
unfolding free ask descend node HasType variable_type sort Substituted
four (_, _, _, h) = ⊎_elim (λ d. d.0) (λ d. d.1.2) h

pub worked_example_stands : WorkedExample
worked_example_stands = (weighed, deep, one, two, three, four)
