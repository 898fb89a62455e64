-- How the numbers of a text are read one by one.
use Rattle.std.proofs.Common.{◌≡◌, ℕ, suc, ◌+◌, ◌-◌, ◌<◌, ◌&&◌, List, [], ◌∷◌, ◌++◌, length, take, set, Some, None, Option, sym, refl, ap, ◌∙◌, append_assoc, arith, is_some}
use Rattle.std.specs.List.{list_all}
use Rattle.std.proofs.lemmas.List.{take_more_set}
use Rattle.commands.specs.Words.{Bytes, number, numbers, both, all_numbers}

abbrev pub prefixed : List ℕ → Option (List ℕ) → Option (List ℕ)
prefixed xs None = None
prefixed xs (Some ys) = Some (xs ++ ys)

prefixed_more : (xs : List ℕ) (n : ℕ) (r : Option (List ℕ)) → prefixed xs (both (Some n) r) ≡ prefixed (xs ++ n ∷ []) r
prefixed_more xs n None = refl
prefixed_more xs n (Some ys) = ap (λ l. Some l) (sym (append_assoc xs (n ∷ []) ys))

one_less : (k i : ℕ) → i < k → k - i ≡ suc (k - (i + 1))
one_less k i l = omega arith

module _ (k i : ℕ) (all : List ℕ) (ws : List Bytes) where
  pub number_more : (w : Bytes) (vs : List Bytes) (n : ℕ) → i < k → length all ≡ k → ws ≡ w ∷ vs → number 16 w ≡ Some n → prefixed (take i all) (numbers 16 (k - i) ws) ≡ prefixed (take (i + 1) (set all i n)) (numbers 16 (k - (i + 1)) vs)
  number_more w vs n l long e h =
      let within : i < length all = omega arith in
      ap (λ m. prefixed (take i all) (numbers 16 m ws)) (one_less k i l)
      ∙ ap (λ v. prefixed (take i all) (numbers 16 (suc (k - (i + 1))) v)) e
      ∙ ap (λ r. prefixed (take i all) (both r (numbers 16 (k - (i + 1)) vs))) h
      ∙ prefixed_more (take i all) n (numbers 16 (k - (i + 1)) vs)
      ∙ ap (λ xs. prefixed xs (numbers 16 (k - (i + 1)) vs)) (sym (take_more_set all i n within))

some_both : (n : Option ℕ) (ns : Option (List ℕ)) → (is_some n && is_some ns) ≡ is_some (both n ns)
some_both None ns = refl
some_both (Some n) None = refl
some_both (Some n) (Some ns) = refl

-- whether words are numbers
pub all_are_numbers : (ws : List Bytes) → list_all (λ w. is_some (number 16 w)) ws ≡ is_some (all_numbers ws)
all_are_numbers [] = refl
all_are_numbers (w ∷ ws) = rw (all_are_numbers ws) (some_both (number 16 w) (all_numbers ws))
