-- What `position` passes over.
use Rattle.std.proofs.Common.{◌≡◌, ℕ, ◌<◌, Bool, false, List, length, get_or, None, position, arith}
use Rattle.std.proofs.lemmas.Bool.Decides.{nat_tests}
use Rattle.std.proofs.lemmas.List.Sums.{fails_before_first}

pub position-None : {A : Type 0} (test : A → Bool) (xs : List A) (k : ℕ) (d : A) → position test xs ≡ None → k < length xs → test (get_or xs k d) ≡ false
position-None test xs k d e l = fails_before_first test xs k d (grind (arith, nat_tests))
