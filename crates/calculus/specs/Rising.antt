-- Lists of numbers that rise strictly.
use Rattle.std.specs.Prelude.{◌≡◌, ℕ, ◌+◌, ◌<◌, ◌↔◌, List, length, slice_index}
use Rattle.logic.specs.Formulas.{In}

-- each number is below the one after it
abbrev pub Rising : List ℕ → Type 0
Rising xs = (k : ℕ) → k + 1 < length xs → slice_index xs k < slice_index xs (k + 1)

-- rising lists that are equal as sets are equal
abbrev pub SetsAreLists : Type 0
SetsAreLists = (xs ys : List ℕ) → Rising xs → Rising ys → ((n : ℕ) → In n xs ↔ In n ys) → xs ≡ ys
