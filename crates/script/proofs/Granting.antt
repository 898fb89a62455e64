-- Every hold in hand was granted by a book that is there.
use Rattle.std.proofs.Common.{◌≡◌, ℕ, zero, suc, ◌<◌, ◌≤◌, Bool, true, false, ◌&&◌, List, [], ◌∷◌, ◌++◌, length, get_or, set, Some, None, Ok, Err, Option, Result, sym, refl, ap, ◌∙◌, subst, arith, ltb-true, lt-ltb}
use Rattle.book.specs.declared.hold.Refused.{Refused}
use Rattle.book.specs.Books.{Model, lift, withdraw}
use Rattle.commands.specs.declared.command.HoldCall.{HoldCall}
use Rattle.commands.specs.declared.command.HoldCall.TheVariants.{Preview, Lift, Withdraw}
use Rattle.replies.specs.declared.hand.Held.{Held}
use Rattle.replies.specs.Hands.{undergo, lifted, withdrawn}
use Rattle.script.specs.Closing.{GrantedBy, AllGranted, granted_by, all_granted}

both_true : (s t : Bool) → (s && t) ≡ true → (s ≡ true) × (t ≡ true)
both_true true t e = (refl, e)
both_true false t e = cc

-- the test tells it
one_in : (n : ℕ) (x : Option Held) → granted_by n x ≡ true → GrantedBy n x
one_in n None e = tt
one_in n (Some x) e = ltb-true x.granted_by n e

one_out : (n : ℕ) (x : Option Held) → GrantedBy n x → granted_by n x ≡ true
one_out n None g = refl
one_out n (Some x) g = lt-ltb x.granted_by n g

pub granted_in : (n : ℕ) (xs : List (Option Held)) → all_granted n xs ≡ true → AllGranted n xs
granted_in n [] e = tt
granted_in n (x ∷ xs) e = let p = both_true (granted_by n x) (all_granted n xs) e in (one_in n x p.0, granted_in n xs p.1)

pub granted_out : (n : ℕ) (xs : List (Option Held)) → AllGranted n xs → all_granted n xs ≡ true
granted_out n [] g = refl
granted_out n (x ∷ xs) g = ap (λ t. t && all_granted n xs) (one_out n x g.0) ∙ granted_out n xs g.1

one_more : (m n : ℕ) → m ≤ n → (x : Option Held) → GrantedBy m x → GrantedBy n x
one_more m n l None g = tt
one_more m n l (Some x) g = omega arith

pub granted_more : (m n : ℕ) → m ≤ n → (xs : List (Option Held)) → AllGranted m xs → AllGranted n xs
granted_more m n l [] g = tt
granted_more m n l (x ∷ xs) g = (one_more m n l x g.0, granted_more m n l xs g.1)

module _ (n : ℕ) where
  pub granted_push : (xs : List (Option Held)) (x : Option Held) → AllGranted n xs → GrantedBy n x → AllGranted n (xs ++ x ∷ [])
  granted_push [] x g h = (h, tt)
  granted_push (y ∷ xs) x g h = (g.0, granted_push xs x g.1 h)

  pub granted_front : (xs ys : List (Option Held)) → AllGranted n (xs ++ ys) → AllGranted n xs
  granted_front [] ys g = tt
  granted_front (x ∷ xs) ys g = (g.0, granted_front xs ys g.1)

  pub granted_last : (xs : List (Option Held)) (x : Option Held) → AllGranted n (xs ++ x ∷ []) → GrantedBy n x
  granted_last [] x g = g.0
  granted_last (y ∷ xs) x g = granted_last xs x g.1

  pub granted_set : (xs : List (Option Held)) (i : ℕ) (x : Option Held) → AllGranted n xs → GrantedBy n x → AllGranted n (set xs i x)
  granted_set [] i x g h = tt
  granted_set (y ∷ xs) zero x g h = (h, g.1)
  granted_set (y ∷ xs) (suc i) x g h = (g.0, granted_set xs i x g.1 h)

  pub granted_at : (xs : List (Option Held)) (i : ℕ) (x : Option Held) → AllGranted n xs → i < length xs → x ≡ get_or xs i x → GrantedBy n x
  granted_at [] i x g l e = absurd (omega arith)
  granted_at (y ∷ xs) zero x g l e = subst (GrantedBy n) (sym e) g.0
  granted_at (y ∷ xs) (suc i) x g l e = granted_at xs i x g.1 (omega arith) e

  lifted_granted : (o : Result (Unit {0}) Refused) (x : Option Held) (b : Model) → GrantedBy n x → GrantedBy n (lifted o x b).hand
  lifted_granted (Ok u) x b g = tt
  lifted_granted (Err e) x b g = g

  withdrawn_granted : (o : Result (ℕ × ℕ) Refused) (x : Option Held) (b : Model) → GrantedBy n x → GrantedBy n (withdrawn o x b).hand
  withdrawn_granted (Ok p) x b g = tt
  withdrawn_granted (Err e) x b g = g

  -- what is done with a hold leaves it to the book that granted it
  pub still_granted : (d : HoldCall) (b : Model) (x : Option Held) → GrantedBy n x → GrantedBy n (undergo d b x).hand
  still_granted Preview b None g = tt
  still_granted Lift b None g = tt
  still_granted Withdraw b None g = tt
  still_granted Preview b (Some x) g = g
  still_granted Lift b (Some x) g = lifted_granted (lift b x.hold).answer (Some x) (lift b x.hold).after g
  still_granted Withdraw b (Some x) g = withdrawn_granted (withdraw b x.hold).answer (Some x) (withdraw b x.hold).after g

-- the same of the test
pub begun_granted : (m n : ℕ) (xs : List (Option Held)) → m ≤ n → all_granted m xs ≡ true → all_granted n xs ≡ true
begun_granted m n xs l t = granted_out n xs (granted_more m n l xs (granted_in m xs t))

pub hold_granted : (n : ℕ) (xs : List (Option Held)) (x : Option Held) → all_granted n xs ≡ true → GrantedBy n x → all_granted n (xs ++ x ∷ []) ≡ true
hold_granted n xs x t g = granted_out n (xs ++ x ∷ []) (granted_push n xs x (granted_in n xs t) g)

pub set_granted : (n : ℕ) (xs : List (Option Held)) (i : ℕ) (x : Option Held) → all_granted n xs ≡ true → GrantedBy n x → all_granted n (set xs i x) ≡ true
set_granted n xs i x t g = granted_out n (set xs i x) (granted_set n xs i x (granted_in n xs t) g)

pub at_granted : (n : ℕ) (xs : List (Option Held)) (i : ℕ) (x : Option Held) → all_granted n xs ≡ true → i < length xs → x ≡ get_or xs i x → GrantedBy n x
at_granted n xs i x t l e = granted_at n xs i x (granted_in n xs t) l e

module _ (n : ℕ) (xs ys : List (Option Held)) (x : Option Held) (e : xs ≡ ys ++ x ∷ []) (t : all_granted n xs ≡ true) where
  pub last_granted : GrantedBy n x
  last_granted = granted_last n ys x (subst (AllGranted n) e (granted_in n xs t))

  pub front_granted : all_granted n ys ≡ true
  front_granted = granted_out n ys (granted_front n ys (x ∷ []) (subst (AllGranted n) e (granted_in n xs t)))
