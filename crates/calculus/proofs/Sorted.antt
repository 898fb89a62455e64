-- Rising lists that are equal as sets are equal.
use Rattle.std.proofs.Common.{◌≡◌, ℕ, suc, ◌<◌, List, [], ◌∷◌, sym, refl, subst, ap₂, inl, inr, ⊎_elim, add-one, arith}
use Rattle.logic.specs.Formulas.{In}
use Rattle.calculus.specs.Rising.{Rising, SetsAreLists}

tail : (x : ℕ) (xs : List ℕ) → Rising (x ∷ xs) → Rising xs
tail x xs r k h = simp add-one (simp add-one at (r (suc k) (omega arith)))

-- the first is below all others
first_below : (x : ℕ) (xs : List ℕ) → Rising (x ∷ xs) → (n : ℕ) → In n xs → x < n
first_below x [] r n i = absurd i
first_below x (y ∷ ys) r n (inl e) = subst (λ m. x < m) (sym e) (r 0 (omega arith))
first_below x (y ∷ ys) r n (inr i) =
    let l : x < y = r 0 (omega arith) in
    let h : y < n = first_below y ys (tail x (y ∷ ys) r) n i in
    omega arith

-- one half of what the tails have in common
half : (x y : ℕ) (xs ys : List ℕ) → Rising (x ∷ xs) → x ≡ y → ((n : ℕ) → In n (x ∷ xs) → In n (y ∷ ys)) → (n : ℕ) → In n xs → In n ys
half x y xs ys r e f n i = ⊎_elim (λ d. let l : x < n = first_below x xs r n i in absurd (omega arith)) (λ j. j) (f n (inr i))

pub sets_are_lists : SetsAreLists
sets_are_lists [] [] r s same = refl
sets_are_lists [] (y ∷ ys) r s same = absurd ((same y).1 (inl refl))
sets_are_lists (x ∷ xs) [] r s same = absurd ((same x).0 (inl refl))
sets_are_lists (x ∷ xs) (y ∷ ys) r s same =
    let e : x ≡ y = ⊎_elim (λ d. d) (λ i. ⊎_elim (λ d. sym d) (λ j. let l : y < x = first_below y ys s x i in let h : x < y = first_below x xs r y j in absurd (omega arith))
    ((same y).1 (inl refl))) ((same x).0 (inl refl)) in
    ap₂ ◌∷◌ e (sets_are_lists xs ys (tail x xs r) (tail y ys s)
    λ n. (half x y xs ys r e (λ m. (same m).0) n, half y x ys xs s (sym e) (λ m. (same m).1) n))
