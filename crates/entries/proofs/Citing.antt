-- Citations in order are entries.
use Rattle.std.proofs.Common.{◌≡◌, ℕ, ◌+◌, ◌<◌, List, [], ◌∷◌, None, arith, All}
use Rattle.std.proofs.lemmas.Bool.Decides.{nat_tests}
use Rattle.std.proofs.lemmas.List.Elements.{All-nil, All-cons}
use Rattle.entries.specs.Concluding.{disorder}

pub all_below : (n place low : ℕ) (cites : List ℕ) → disorder n place low cites ≡ None → All (λ c. c < n) cites
all_below n place low [] e = All-nil (λ c. c < n)
all_below n place low (c ∷ cs) e = All-cons (λ c. c < n) c cs (grind (arith, nat_tests)) (all_below n (place + 1) (c + 1) cs (grind (arith, nat_tests)))
