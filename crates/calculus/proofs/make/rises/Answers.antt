use Rattle.std.proofs.Common.{◌≡◌, ℕ, Bool, true, false, ltb, List, Decides, refl, arith, rules, tests}
use Rattle.std.specs.List.{IsAllAdjacentAnswer}
use Rattle.std.proofs.lemmas.Bool.{false≢true}
use Rattle.std.proofs.lemmas.Bool.Decides.{nat_tests}
use Rattle.std.proofs.lemmas.Fn.{always_returns_same}
use Rattle.calculus.specs.Rising.{Rising}
use Rattle.calculus.proofs.make.rises.Goals as goal

rising_from_adjacent : (xs : List ℕ) (r : Bool) → IsAllAdjacentAnswer (λ x y b. b ≡ ltb x y) xs r → Decides r (Rising xs)
rising_from_adjacent xs true h = (λ _ k l. let t = h k 0 l in grind (arith, nat_tests), λ _. refl)
rising_from_adjacent xs false (k, l, h) = (λ e. absurd (false≢true e), λ rises. let t = h 0 in let s = rises k l in absurd (grind (arith, nat_tests)))

pub returns : goal.returns
returns c =
    rising_from_adjacent c.args.list.now c.is_sorted_by.result
    (c.is_sorted_by.ensures.cases ltb (always_returns_same _ _ _ (λ a r f' k. search (rules, tests))))
