-- What the effects say of states agrees with the book, and stays so.
use Rattle.std.proofs.Common.{◌≡◌, ℕ, ◌+◌, ◌<◌, T, ◌⊎◌, List, [], ◌∷◌, ◌++◌, map, length, set, sym, refl, ap, ◌∙◌, subst, inl, inr, ⊎_elim, arith, length-append, length-set}
use Rattle.std.proofs.lemmas.Bool.{cases_lt, cases_eq}
use lib.ListN.{length-map, get_or-map}
use Rattle.std.proofs.lemmas.List.{get_or_push, get_or_append_left, get_or-set_same, get_or-set_other}
use Rattle.states.specs.declared.entry.Entry.{Entry}
use Rattle.states.specs.declared.entry.Origin.TheVariants.{Given, Concluded}
use Rattle.states.specs.declared.entry.State.{State}
use Rattle.states.specs.declared.entry.State.TheVariants.{Standing, Held, Withdrawn, Fallen}
use Rattle.states.specs.States.{stands}
use Rattle.states.specs.Support.{in_support, with_state, lose}
use Rattle.entries.specs.Lists.{no_entry, at}
use Rattle.book.proofs.Effects.{Effect, Effects, Withdraws, HoldsNow, IsWithdrawn, IsHeld, WithdrawnSince}
use Rattle.book.proofs.Static.{origin_is, Kept}

pub record States (ds : Effects) (es : List Entry) : Type 0 where
  pub withdrawn_in : (r : ℕ) → IsWithdrawn ds r → (r < length es) × ((at es r).state ≡ Withdrawn)
  pub held_in : (r : ℕ) → IsHeld ds r → (r < length es) × ((at es r).state ≡ Held)
  pub given_state : (e : ℕ) → e < length es → (at es e).origin ≡ Given → T (stands (at es e).state) ⊎ IsWithdrawn ds e
  pub concluded_state : (e : ℕ) → e < length es → (at es e).origin ≡ Concluded →
      ((at es e).state ≡ Standing) ⊎ ((r : ℕ) × ((at es e).state ≡ Fallen) × T (in_support r (at es e)) × WithdrawnSince ds e r)
  pub fallen_in : (e : ℕ) → e < length es → (at es e).origin ≡ Concluded → (r : ℕ) → T (in_support r (at es e)) → IsWithdrawn ds r → (at es e).state ≡ Fallen

-- a held entry is a given rule
pub held_given : (ds : Effects) (es : List Entry) → States ds es → (r : ℕ) → r < length es → (at es r).state ≡ Held → (at es r).origin ≡ Given
held_given ds es st r lt h = ⊎_elim (λ o. o)
    (λ o. ⊎_elim (λ s. cc) (λ (q, s, t, u). cc) (st.concluded_state r lt o))
    (origin_is (at es r).origin)

-- places
pub at_old : (es : List Entry) (x : Entry) (e : ℕ) → e < length es → at (es ++ x ∷ []) e ≡ at es e
at_old es x e lt = get_or_append_left es (x ∷ []) no_entry e lt

pub at_new : (es : List Entry) (x : Entry) → at (es ++ x ∷ []) (length es) ≡ x
at_new es x = get_or_push es x no_entry (length es) refl

pub at_set : (es : List Entry) (r : ℕ) (x : Entry) → r < length es → at (set es r x) r ≡ x
at_set es r x lt = get_or-set_same es r x no_entry lt

pub at_other : (es : List Entry) (r e : ℕ) (x : Entry) → (e ≡ r → ⊥) → at (set es r x) e ≡ at es e
at_other es r e x n = get_or-set_other es r e x no_entry n

pub at_lose : (es : List Entry) (r e : ℕ) → at (map (lose r) es) e ≡ lose r (at es e)
at_lose es r e = get_or-map (lose r) es e no_entry

pub longer : (es : List Entry) (x : Entry) → length (es ++ x ∷ []) ≡ length es + 1
longer es x = length-append es (x ∷ [])

pub kept_append : (es : List Entry) (x : Entry) → Kept es (es ++ x ∷ [])
kept_append es x e lt = let long = longer es x in let same = at_old es x e lt in
    (omega arith, ap (λ y. y.origin) same, ap (λ y. y.predicate) same, ap (λ (y : Entry). y.support) same)

pub kept_set : (es : List Entry) (r : ℕ) (s : State) → r < length es → Kept es (set es r (with_state (at es r) s))
kept_set es r s lr e lt = let long = length-set es r (with_state (at es r) s) in ⊎_elim
    (λ same. subst (λ k. (k < length (set es r (with_state (at es r) s))) × ((at (set es r (with_state (at es r) s)) k).origin ≡ (at es k).origin) ×
    ((at (set es r (with_state (at es r) s)) k).predicate ≡ (at es k).predicate) × ((at (set es r (with_state (at es r) s)) k).support ≡ (at es k).support))
    (sym same) (let here = at_set es r (with_state (at es r) s) lr in
    (omega arith, ap (λ y. y.origin) here, ap (λ y. y.predicate) here, ap (λ (y : Entry). y.support) here)))
    (λ n. let there = at_other es r e (with_state (at es r) s) n in (omega arith, ap (λ y. y.origin) there, ap (λ y. y.predicate) there, ap (λ (y : Entry). y.support) there))
    (cases_eq e r)

pub kept_lose : (es : List Entry) (r : ℕ) → Kept es (map (lose r) es)
kept_lose es r e lt = let long = length-map es (lose r) in let same = at_lose es r e in
    (omega arith, ap (λ y. y.origin) same, ap (λ y. y.predicate) same, ap (λ (y : Entry). y.support) same)

pub kept_twice : (es es' es'' : List Entry) → Kept es es' → Kept es' es'' → Kept es es''
kept_twice es es' es'' k l e lt = let (a, b, c, d) = k e lt in let (a', b', c', d') = l e a in (a', b' ∙ b, c' ∙ c, d' ∙ d)

module _ (d : Effect) (ds : Effects) (es : List Entry) (quiet : (r : ℕ) → (Withdraws r d → ⊥) × (HoldsNow r d → ⊥)) (st : States ds es) where
  pub states_quiet : States (d ∷ ds) es
  states_quiet = record {
    withdrawn_in = λ r. ⊎_elim (λ h. absurd ((quiet r).0 h)) (st.withdrawn_in r);
    held_in = λ r. ⊎_elim (λ h. absurd ((quiet r).1 h)) (λ (h, u). st.held_in r h);
    given_state = λ e lt o. ⊎_elim inl (λ w. inr (inr w)) (st.given_state e lt o);
    concluded_state = λ e lt o. ⊎_elim inl (λ (r, s, t, u). inr (r, s, t, inr u)) (st.concluded_state e lt o);
    fallen_in = λ e lt o r t. ⊎_elim (λ h. absurd ((quiet r).0 h)) (st.fallen_in e lt o r t);
  }

  module _ (x : Entry) (new : x.state ≡ Standing) (fresh : x.origin ≡ Concluded → (r : ℕ) → T (in_support r x) → IsWithdrawn ds r → ⊥) where
    -- of an old place or of the new one
    either_place : (P : ℕ → Entry → Type 0) → ((e : ℕ) → e < length es → P e (at es e)) → P (length es) x → (e : ℕ) → e < length (es ++ x ∷ []) → P e (at (es ++ x ∷ []) e)
    either_place P old last e lt = let long = longer es x in ⊎_elim
        (λ l. rw (at_old es x e l) (old e l))
        (λ l. let same : length es ≡ e = omega arith in subst (λ k. P k (at (es ++ x ∷ []) k)) same (rw (at_new es x) last))
        (cases_lt e (length es))

    pub states_append : States (d ∷ ds) (es ++ x ∷ [])
    states_append = let q = states_quiet in let long = longer es x in record {
      withdrawn_in = λ r h. let (l, s) = q.withdrawn_in r h in (omega arith, rw (at_old es x r l) s);
      held_in = λ r h. let (l, s) = q.held_in r h in (omega arith, rw (at_old es x r l) s);
      given_state = either_place (λ e y. y.origin ≡ Given → T (stands y.state) ⊎ IsWithdrawn (d ∷ ds) e) q.given_state (λ o. inl (subst (λ s. T (stands s)) (sym new) tt));
      concluded_state = either_place (λ e y. y.origin ≡ Concluded → (y.state ≡ Standing) ⊎ ((r : ℕ) × (y.state ≡ Fallen) × T (in_support r y) × WithdrawnSince (d ∷ ds) e r))
          q.concluded_state (λ o. inl new);
      fallen_in = either_place (λ e y. y.origin ≡ Concluded → (r : ℕ) → T (in_support r y) → IsWithdrawn (d ∷ ds) r → y.state ≡ Fallen)
          q.fallen_in (λ o r t. ⊎_elim (λ h. absurd ((quiet r).0 h)) (λ h. absurd (fresh o r t h)));
    }
