-- The place of the first that passes a test, as the library tells it and as the logic does.
use Rattle.std.proofs.Common.{◌≡◌, ℕ, suc, ◌+◌, Bool, true, false, cond, not, ltb, List, [], ◌∷◌, length, Some, None, Option, refl, ap, ◌∙◌, arith}
use Rattle.std.specs.Option.{option_map}
use Rattle.std.specs.List.{position, position_or_len}
use Rattle.logic.specs.Deciding.{found}

one_more : (n m : ℕ) → ltb (1 + n) (suc m) ≡ ltb n m
one_more n m = grind arith

some_left : (m : ℕ) → ltb 0 (suc m) ≡ true
some_left m = grind arith

later : (b : Bool) (n : ℕ) → cond b (Some (1 + n)) None ≡ option_map suc (cond b (Some n) None)
later true n = ap Some (omega arith)
later false n = refl

step : (b : Bool) (n m : ℕ) (o : Option ℕ) → cond (ltb n m) (Some n) None ≡ o →
    cond (ltb (cond (not b) (1 + n) 0) (suc m)) (Some (cond (not b) (1 + n) 0)) None ≡ cond b (Some 0) (option_map suc o)
step true n m o e = ap (λ (b : Bool). cond b (Some 0) None) (some_left m)
step false n m o e = ap (λ (b : Bool). cond b (Some (1 + n)) None) (one_more n m) ∙ (later (ltb n m) n ∙ ap (option_map suc) e)

pub position_found : {A : Type 0} (p : A → Bool) (xs : List A) → position p xs ≡ found p xs
position_found p [] = refl
position_found p (x ∷ xs) = step (p x) (position_or_len p xs) (length xs) (found p xs) (position_found p xs)
