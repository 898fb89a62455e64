-- The books and the holds of a session in memory, and the lists that the definitions speak of.
use Rattle.std.proofs.Common.{◌≡◌, ℕ, zero, suc, ◌<◌, ◌≤◌, List, [], ◌∷◌, length, get_or, set, Some, None, Option, sym, refl, ap, ◌∙◌}
use Rattle.std.specs.List.{slice_get}
use Rattle.std.proofs.lemmas.Option.{slice_get-get_or, slice_get_past}
use Rattle.book.specs.Books.{Model}
use Rattle.replies.specs.declared.hand.Held.{Held}

module _ (bs : List Model) (k : ℕ) where
  pub here : (b : Model) → k < length bs → b ≡ get_or bs k b → slice_get bs k ≡ Some b
  here b l e = slice_get-get_or bs k b l ∙ ap (λ x. Some x) (sym e)

  pub nowhere : length bs ≤ k → slice_get bs k ≡ None
  nowhere l = slice_get_past bs k l

  pub put : (d m : Model) → d ≡ m → set bs k d ≡ set bs k m
  put d m h = ap (set bs k) h

pub set_nth : (ms : List Model) (k : ℕ) (m : Model) → slice_get ms k ≡ Some m → set ms k m ≡ ms
set_nth [] k m e = refl
set_nth (x ∷ ms) zero m e = let same : m ≡ x = cc in ap (λ y. y ∷ ms) same
set_nth (x ∷ ms) (suc k) m e = ap (λ l. x ∷ l) (set_nth ms k m e)

module _ (xs : List (Option Held)) (h : ℕ) where
  pub in_hand : (x : Option Held) → h < length xs → x ≡ get_or xs h x → slice_get xs h ≡ Some x
  in_hand x l e = slice_get-get_or xs h x l ∙ ap (λ y. Some y) (sym e)

  pub not_in_hand : length xs ≤ h → slice_get xs h ≡ None
  not_in_hand l = slice_get_past xs h l
