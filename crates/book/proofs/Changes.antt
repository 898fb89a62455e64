-- States after hold, lift and withdraw.
use Rattle.std.proofs.Common.{◌≡◌, ℕ, ◌<◌, Bool, true, false, cond, T, ◌⊎◌, List, ◌∷◌, map, length, set, sym, refl, ap, ◌∙◌, subst, inl, inr, ⊎_elim, arith, length-set}
use Rattle.std.proofs.lemmas.Bool.{cases_eq}
use lib.ListN.{length-map}
use Rattle.logic.specs.Formulas.{Vocabulary}
use Rattle.states.specs.declared.entry.Entry.{Entry}
use Rattle.states.specs.declared.entry.Origin.{Origin}
use Rattle.states.specs.declared.entry.Origin.TheVariants.{Given, Concluded}
use Rattle.states.specs.declared.entry.State.{State}
use Rattle.states.specs.declared.entry.State.TheVariants.{Standing, Held, Withdrawn, Fallen}
use Rattle.states.specs.declared.entry.Event.TheVariants.{Loss}
use Rattle.states.specs.States.{becomes, stands}
use Rattle.states.specs.Support.{in_support, with_state, lose}
use Rattle.entries.specs.Lists.{at}
use Rattle.book.proofs.Effects.{Effect, put_on_hold, lifted, withdrew, Effects, Withdraws, IsHeld, WithdrawnSince, IsWithdrawn}
use Rattle.book.proofs.Static.{origins_differ, Kept, Static}
use Rattle.book.proofs.EntryStates.{States, held_given, at_set, at_other, at_lose, kept_set, kept_lose, kept_twice}

pub test : (b : Bool) → T b ⊎ (b ≡ false)
test true = inl tt
test false = inr refl

pub TIs : (b : Bool) → T b → b ≡ true
TIs true t = refl
TIs false t = absurd t

module _ (ds : Effects) (es : List Entry) (st : States ds es) (r : ℕ) (lr : r < length es) (og : (at es r).origin ≡ Given) where
  module _ (s : State) where
    abbrev pub changed : List Entry
    changed = set es r (with_state (at es r) s)

    here : (at changed r).state ≡ s
    here = ap (λ y. y.state) (at_set es r (with_state (at es r) s) lr)

    there : (e : ℕ) → (e ≡ r → ⊥) → at changed e ≡ at es e
    there e n = at_other es r e (with_state (at es r) s) n

    as_long : length changed ≡ length es
    as_long = length-set es r (with_state (at es r) s)

    -- a conclusion is elsewhere
    elsewhere : (e : ℕ) → (at changed e).origin ≡ Concluded → e ≡ r → ⊥
    elsewhere e o same = origins_differ _ og (sym (kept_set es r s lr r lr).1 ∙ subst (λ k. (at changed k).origin ≡ Concluded) same o)

  module _ (s t : State) (d : Effect) (up : T (stands t)) (was : (at es r).state ≡ s) (not-withdrawn : s ≡ Withdrawn → ⊥)
      (none_withdrawn : (q : ℕ) → Withdraws q d → ⊥) (after : (q : ℕ) → IsHeld (d ∷ ds) q → (q ≡ r → t ≡ Held) × ((q ≡ r → ⊥) → IsHeld ds q)) where
    pub states_change : States (d ∷ ds) (changed t)
    states_change = let long = as_long t in record {
      withdrawn_in = λ q. ⊎_elim (λ h. absurd (none_withdrawn q h)) (λ h. let (l, u) = st.withdrawn_in q h in ⊎_elim
          (λ same. absurd (not-withdrawn (sym was ∙ subst (λ k. (at es k).state ≡ Withdrawn) same u)))
          (λ n. (omega arith, rw (there t q n) u)) (cases_eq q r));
      held_in = λ q h. let (a, b) = after q h in ⊎_elim
          (λ same. (omega arith, subst (λ k. (at (changed t) k).state ≡ Held) (sym same) (here t ∙ a same)))
          (λ n. let (l, u) = st.held_in q (b n) in (omega arith, rw (there t q n) u)) (cases_eq q r);
      given_state = λ e lt o. ⊎_elim
          (λ same. inl (subst (λ k. T (stands (at (changed t) k).state)) (sym same) (subst (λ k. T (stands k)) (sym (here t)) up)))
          (λ n. subst (λ y. T (stands y.state) ⊎ IsWithdrawn (d ∷ ds) e) (sym (there t e n))
          (⊎_elim inl (λ w. inr (inr w)) (st.given_state e (omega arith) (ap (λ y. y.origin) (sym (there t e n)) ∙ o))))
          (cases_eq e r);
      concluded_state = λ e lt o. let n = elsewhere t e o in
          subst (λ y. (y.state ≡ Standing) ⊎ ((q : ℕ) × (y.state ≡ Fallen) × T (in_support q y) × WithdrawnSince (d ∷ ds) e q)) (sym (there t e n))
          (⊎_elim inl (λ (q, u, f, w). inr (q, u, f, inr w)) (st.concluded_state e (omega arith) (ap (λ y. y.origin) (sym (there t e n)) ∙ o)));
      fallen_in = λ e lt o q f. let n = elsewhere t e o in ⊎_elim (λ h. absurd (none_withdrawn q h)) λ h. rw (there t e n)
          (st.fallen_in e (omega arith) (ap (λ y. y.origin) (sym (there t e n)) ∙ o) q (rw (there t e n) at f) h);
    }

  pub states_hold : (at es r).state ≡ Standing → States (put_on_hold r ∷ ds) (changed Held)
  states_hold was = states_change Standing Held (put_on_hold r) tt was (λ e. cc) (λ q h. h)
      λ q. ⊎_elim (λ same. (λ e. refl, λ n. absurd (n (sym same)))) (λ (h, u). (λ e. refl, λ n. h))

  pub states_lift : (at es r).state ≡ Held → States (lifted r ∷ ds) (changed Standing)
  states_lift was = states_change Held Standing (lifted r) tt was (λ e. cc) (λ q h. h)
      λ q. ⊎_elim absurd (λ (h, u). (λ e. absurd (u (sym e)), λ n. h))

lose_given : (r : ℕ) (x : Entry) → x.origin ≡ Given → (lose r x).state ≡ x.state
lose_given r x o = rw o (go (in_support r x) x.state)
  where
    go : (b : Bool) (s : State) → cond b (becomes s Loss Given) s ≡ s
    go false s = refl
    go true Standing = refl
    go true Held = refl
    go true Withdrawn = refl
    go true Fallen = refl

lose_hit : (r : ℕ) (x : Entry) → x.origin ≡ Concluded → T (in_support r x) → x.state ≡ Standing → (lose r x).state ≡ Fallen
lose_hit r x o t s = rw (TIs (in_support r x) t, o, s) refl

lose_missed : (r : ℕ) (x : Entry) → in_support r x ≡ false → (lose r x).state ≡ x.state
lose_missed r x f = rw f refl

lose_settled : (r : ℕ) (x : Entry) (s : State) → x.state ≡ s → (s ≡ Standing → ⊥) → (lose r x).state ≡ s
lose_settled r x s e n = rw e (go (in_support r x) x.origin s n)
  where
    go : (b : Bool) (o : Origin) (s : State) → (s ≡ Standing → ⊥) → cond b (becomes s Loss o) s ≡ s
    go false o s n = refl
    go true Given Standing n = refl
    go true Given Held n = refl
    go true Given Withdrawn n = refl
    go true Given Fallen n = refl
    go true Concluded Standing n = absurd (n refl)
    go true Concluded Held n = refl
    go true Concluded Withdrawn n = refl
    go true Concluded Fallen n = refl

module _ (ds : Effects) (v : Vocabulary) (es : List Entry) (known : Static ds v es) (st : States ds es) (r : ℕ) (lr : r < length es) (was : (at es r).state ≡ Held) where
  abbrev pub without_rule : List Entry
  without_rule = map (lose r) (set es r (with_state (at es r) Withdrawn))

  pub og : (at es r).origin ≡ Given
  og = held_given ds es st r lr was

  pub kept_without : Kept es without_rule
  kept_without = kept_twice es _ _ (kept_set es r Withdrawn lr) (kept_lose (set es r (with_state (at es r) Withdrawn)) r)

  pub as_many : length without_rule ≡ length es
  as_many = length-map (set es r (with_state (at es r) Withdrawn)) (lose r) ∙ length-set es r (with_state (at es r) Withdrawn)

  rule : (at without_rule r).state ≡ Withdrawn
  rule = ap (λ y. y.state) (at_lose (set es r (with_state (at es r) Withdrawn)) r r ∙ ap (lose r) (at_set es r (with_state (at es r) Withdrawn) lr))
      ∙ lose_given r (with_state (at es r) Withdrawn) og

  rest : (e : ℕ) → (e ≡ r → ⊥) → at without_rule e ≡ lose r (at es e)
  rest e n = at_lose (set es r (with_state (at es r) Withdrawn)) r e ∙ ap (lose r) (at_other es r e (with_state (at es r) Withdrawn) n)

  settled : (e : ℕ) (s : State) → (e ≡ r → ⊥) → (at es e).state ≡ s → (s ≡ Standing → ⊥) → (at without_rule e).state ≡ s
  settled e s n u c = rw (rest e n) (lose_settled r (at es e) s u c)

  other : (e : ℕ) → (at es e).origin ≡ Concluded → e ≡ r → ⊥
  other e o same = origins_differ _ og (subst (λ k. (at es k).origin ≡ Concluded) same o)

  ConcludedAfter : ℕ → Type 0
  ConcludedAfter e = ((at without_rule e).state ≡ Standing) ⊎ ((q : ℕ) × ((at without_rule e).state ≡ Fallen) × T (in_support q (at without_rule e)) × WithdrawnSince (withdrew r ∷ ds) e q)

  concluded_after : (e : ℕ) → e < length es → (at es e).origin ≡ Concluded → ConcludedAfter e
  unfolding ConcludedAfter
  concluded_after e l o = let n = other e o in let kf = (kept_without e l).3 in ⊎_elim
      (λ s. ⊎_elim
      (λ t. inr (r, rw (rest e n) (lose_hit r (at es e) o t s), rw kf t, inl (refl, known.concluded_out e l o)))
      (λ f. inl (ap (λ y. y.state) (rest e n) ∙ lose_missed r (at es e) f ∙ s))
      (test (in_support r (at es e))))
      (λ (q, s, t, w). inr (q, settled e Fallen n s (λ e. cc), rw kf t, inr w))
      (st.concluded_state e l o)

  falls_so : (e : ℕ) → e < length es → (at es e).origin ≡ Concluded → T (in_support r (at es e)) → (at without_rule e).state ≡ Fallen
  falls_so e l o t = let n = other e o in ⊎_elim
      (λ s. rw (rest e n) (lose_hit r (at es e) o t s))
      (λ (q, s, u, w). settled e Fallen n s (λ e. cc))
      (st.concluded_state e l o)

  pub states_withdraw : States (withdrew r ∷ ds) without_rule
  unfolding ConcludedAfter
  states_withdraw = let long = as_many in record {
    withdrawn_in = λ q. ⊎_elim (λ same. (omega arith, subst (λ k. (at without_rule k).state ≡ Withdrawn) same rule))
        (λ h. let (l, u) = st.withdrawn_in q h in ⊎_elim
        (λ same. (omega arith, subst (λ k. (at without_rule k).state ≡ Withdrawn) (sym same) rule))
        (λ n. (omega arith, settled q Withdrawn n u (λ e. cc))) (cases_eq q r));
    held_in = λ q. ⊎_elim absurd (λ (h, u). let (l, s) = st.held_in q h in (omega arith, settled q Held (λ e. u (sym e)) s (λ e. cc)));
    given_state = λ e lt o. let l : e < length es = omega arith in ⊎_elim
        (λ same. inr (inl (sym same)))
        (λ n. let o' = sym (kept_without e l).1 ∙ o in ⊎_elim
        (λ u. inl (subst (λ k. T (stands k)) (sym (ap (λ y. y.state) (rest e n) ∙ lose_given r (at es e) o')) u)) (λ w. inr (inr w)) (st.given_state e l o'))
        (cases_eq e r);
    concluded_state = λ e lt o. let l : e < length es = omega arith in concluded_after e l (sym (kept_without e l).1 ∙ o);
    fallen_in = λ e lt o q t. let l : e < length es = omega arith in let o' = sym (kept_without e l).1 ∙ o in let t' = rw (kept_without e l).3 at t in
        ⊎_elim (λ same. falls_so e l o' (subst (λ k. T (in_support k (at es e))) (sym same) t'))
        (λ h. settled e Fallen (other e o') (st.fallen_in e l o' q t' h) (λ e. cc));
  }
