-- Each call on the entries keeps what agrees between the effects and the book.
use Rattle.std.proofs.Common.{◌≡◌, ℕ, ◌<◌, ◌≤◌, Bool, true, false, cond, not, T, ltb, List, [], ◌∷◌, ◌++◌, map, length, get_or, set, replicate, sym, refl, ap, ◌∙◌, subst, ⊎_elim, arith, ltb→lt, length-set}
use Rattle.std.proofs.lemmas.Bool.{cases_lt, cases_eq}
use Rattle.std.proofs.lemmas.List.{get_or-set_same, get_or-set_other, get_or-replicate, get_or_past, length-replicate}
use Rattle.logic.specs.Deciding.{is_predicate}
use Rattle.states.specs.declared.entry.Entry.{Entry}
use Rattle.states.specs.declared.entry.Origin.{Origin}
use Rattle.states.specs.declared.entry.Origin.TheVariants.{Given, Concluded}
use Rattle.states.specs.declared.entry.State.{State}
use Rattle.states.specs.declared.entry.State.TheVariants.{Standing, Held, Withdrawn, Fallen}
use Rattle.states.specs.declared.entry.Event.TheVariants.{Hold as ToHold, Lift as ToLift, Withdraw as ToWithdraw}
use Rattle.states.specs.declared.refusal.Refusal.{Refusal}
use Rattle.states.specs.declared.refusal.Refusal.TheVariants.{NotAPredicate}
use Rattle.states.specs.States.{becomes, is_held, is_standing, is_given}
use Rattle.entries.specs.Lists as entries
use Rattle.states.specs.Support.{in_support, with_state, lose}
use Rattle.entries.specs.Lists.{Change, no_rules, at, given_entry, holds_entry}
use Rattle.book.specs.declared.hold.Hold.{Hold}
use Rattle.book.specs.declared.hold.Refused.{Refused}
use Rattle.book.specs.Books.{Model, Outcome, refuse, with_entries, on_entries, held, ended, is_own, give, hold, lift, withdraw}
use Rattle.book.specs.Runs.{gives, holds, lifts, withdraws}
use Rattle.book.proofs.Effects.{gave, put_on_hold, lifted, withdrew, nothing, effect, Effects}
use Rattle.book.proofs.Tests.{and_left, and_right}
use Rattle.book.proofs.Static.{no_growth, Fresh, static_step, no_fresh}
use Rattle.book.proofs.EntryStates.{at_new, longer, held_given, kept_append, kept_set, states_quiet, states_append}
use Rattle.book.proofs.Changes.{states_hold, states_lift, kept_without, as_many, states_withdraw}
use Rattle.book.proofs.Reading.{Inv}

pub either_way : {A : Type 0} (Q : A → Type 0) (b : Bool) (x y : A) → (T b → Q x) → (T (not b) → Q y) → Q (cond b x y)
either_way Q true x y f g = f tt
either_way Q false x y f g = g tt

-- a call that did nothing
pub idle : (ds : Effects) (b : Model) → Inv ds b → Inv (nothing ∷ ds) b
idle ds b inv = record {
  told = inv.told;
  formed = inv.formed;
  few = inv.few;
  static = static_step nothing ds b.vocabulary b.vocabulary b.entries b.entries (no_growth b.vocabulary) (λ e lt. (lt, refl, refl, refl))
      (no_fresh nothing ds b.vocabulary b.entries b.entries refl (λ e p h. h) (λ e cites h. h)) inv.static;
  states = states_quiet nothing ds b.entries (λ r. (λ h. h, λ h. h)) inv.states;
}

-- the new place
pub new_place : (es : List Entry) (x : Entry) (e : ℕ) → length es ≤ e → e < length (es ++ x ∷ []) → (length es ≡ e) × (at (es ++ x ∷ []) e ≡ x)
new_place es x e l lt = let long = longer es x in let same : length es ≡ e = omega arith in
    (same, subst (λ k. at (es ++ x ∷ []) k ≡ x) same (at_new es x))

-- the support of a given rule is itself
self_marked : (n : ℕ) → n < 512 → T (get_or (set no_rules n true) n false)
self_marked n l = subst T (sym (get_or-set_same no_rules n true false (simp length-replicate l))) tt

marked_self : (n r : ℕ) → T (get_or (set no_rules n true) r false) → n ≡ r
marked_self n r t = ⊎_elim (λ (e : r ≡ n). sym e) (λ (d : r ≡ n → ⊥). absurd (none d)) (cases_eq r n)
  where
    blank : (k m : ℕ) → get_or (replicate k false) m false ≡ false
    blank k m = ⊎_elim (λ (l : m < k). get_or-replicate k m false false l) (λ (l : k ≤ m). get_or_past (replicate k false) m false (simp length-replicate l)) (cases_lt m k)

    none : (r ≡ n → ⊥) → ⊥
    none d = subst T (get_or-set_other no_rules n r true false d ∙ blank 512 r) t

-- give
module _ (ds : Effects) (b : Model) (inv : Inv ds b) (p : ℕ) (known : p < length b.vocabulary.formulas) (room : length b.entries < 512) where
  fresh_given : Fresh (gave (length b.entries) p) ds b.vocabulary b.entries (b.entries ++ given_entry (length b.entries) p ∷ [])
  fresh_given = let es = b.entries in let x = given_entry (length b.entries) p in let long = longer es x in record {
    gives_new = λ e q (n, s). (
      omega arith,
      subst (λ k. (at (es ++ x ∷ []) k).origin ≡ Given) n (ap (λ (y : Entry). y.origin) (at_new es x)),
      subst (λ k. (at (es ++ x ∷ []) k).predicate ≡ q) n (ap (λ (y : Entry). y.predicate) (at_new es x) ∙ s),
    );
    given_new = λ e l lt o. let (same, is) = new_place es x e l lt in (same, ap (λ (y : Entry). y.predicate) (sym is));
    accepts_new = λ e cites h. absurd h;
    accepted_new = λ e l lt o. let (same, is) = new_place es x e l lt in absurd (not_both (ap (λ (y : Entry). y.origin) (sym is) ∙ o));
    reaches_new = λ e q h. absurd h;
    reached_new = λ e l lt o. let (same, is) = new_place es x e l lt in absurd (not_both (ap (λ (y : Entry). y.origin) (sym is) ∙ o));
    own_new = λ e l lt o r. let (same, is) = new_place es x e l lt in (
      λ t. sym same ∙ marked_self (length es) r (subst (λ (y : Entry). T (in_support r y)) is t),
      λ q. subst (λ (y : Entry). T (in_support r y)) (sym is) (subst (λ (k : ℕ). T (get_or (set no_rules (length es) true) k false)) (same ∙ q) (self_marked (length es) room)),
    );
    known_new = λ e l lt. let (same, is) = new_place es x e l lt in subst (λ (y : Entry). y.predicate < length b.vocabulary.formulas) (sym is) known;
    untainted_new = λ e r cites h. absurd h;
  }
    where
      not_both : Given ≡ Concluded → ⊥
      not_both e = cc

  pub after_give : Inv (gave (length b.entries) p ∷ ds) (with_entries b (b.entries ++ given_entry (length b.entries) p ∷ []))
  after_give = let long = longer b.entries (given_entry (length b.entries) p) in record {
    told = inv.told;
    formed = inv.formed;
    few = omega arith;
    static = static_step (gave (length b.entries) p) ds b.vocabulary b.vocabulary b.entries (b.entries ++ given_entry (length b.entries) p ∷ []) (no_growth b.vocabulary) (kept_append b.entries (given_entry (length b.entries) p)) fresh_given inv.static;
    states = states_append (gave (length b.entries) p) ds b.entries (λ r. (λ h. h, λ h. h)) inv.states (given_entry (length b.entries) p) refl
        (λ o. absurd (subst (λ o. T (is_given o)) o tt));
  }

pub step_give : (ds : Effects) (b : Model) → Inv ds b → (p : ℕ) → Inv (effect (gives p (give b p).answer) ∷ ds) (give b p).after
step_give ds b inv p =
    let Q : Outcome ℕ Refusal → Type 0 = λ o. Inv (effect (gives p o.answer) ∷ ds) o.after in
    let R : Change ℕ → Type 0 = λ o. Q (on_entries b o) in
    either_way Q (is_predicate b.vocabulary p) (on_entries b (entries.give b.entries p)) (refuse NotAPredicate b)
    (λ t. either_way R (ltb (length b.entries) 512) _ _
    (λ u. after_give ds b inv p (ltb→lt _ _ (and_left (ltb p (length b.vocabulary.formulas)) _ t)) (ltb→lt _ _ u)) (λ u. idle ds b inv))
    (λ t. idle ds b inv)

given_is : (o : Origin) → T (is_given o) → o ≡ Given
given_is Given t = refl
given_is Concluded t = absurd t

standing_is : (s : State) → T (is_standing s) → s ≡ Standing
standing_is Standing t = refl
standing_is Held t = absurd t
standing_is Withdrawn t = absurd t
standing_is Fallen t = absurd t

held_is : (s : State) → T (is_held s) → s ≡ Held
held_is Standing t = absurd t
held_is Held t = refl
held_is Withdrawn t = absurd t
held_is Fallen t = absurd t

-- hold
after_hold : (ds : Effects) (b : Model) → Inv ds b → (r : ℕ) → r < length b.entries → (at b.entries r).origin ≡ Given → (at b.entries r).state ≡ Standing →
    Inv (put_on_hold r ∷ ds) (with_entries b (set b.entries r (with_state (at b.entries r) Held)))
after_hold ds b inv r lr o s = let es = b.entries in let same = length-set es r (with_state (at es r) Held) in let few = inv.few in record {
  told = inv.told;
  formed = inv.formed;
  few = omega arith;
  static = static_step (put_on_hold r) ds b.vocabulary b.vocabulary es (set es r (with_state (at es r) Held)) (no_growth b.vocabulary) (kept_set es r Held lr)
      (no_fresh (put_on_hold r) ds b.vocabulary es (set es r (with_state (at es r) Held)) same (λ e p h. h) (λ e cites h. h)) inv.static;
  states = states_hold ds es inv.states r lr o s;
}

pub step_hold : (ds : Effects) (b : Model) → Inv ds b → (e : ℕ) → Inv (effect (holds e (hold b e).answer) ∷ ds) (hold b e).after
step_hold ds b inv e =
    let Q : Change (Unit {0}) → Type 0 = λ o. Inv (effect (holds e (held b e o).answer) ∷ ds) (held b e o).after in
    let x = at b.entries e in
    either_way Q (ltb e (length b.entries)) _ _
    (λ t. either_way Q (is_given x.origin) _ _
    (λ u. either_way Q (is_standing x.state) _ _
    (λ w. let o = given_is x.origin u in let s = standing_is x.state w in
    let turns : becomes x.state ToHold x.origin ≡ Held = rw (o, s) refl in
    subst (λ k. Inv (put_on_hold e ∷ ds) (with_entries b (set b.entries e (with_state x k)))) (sym turns)
    (after_hold ds b inv e (ltb→lt _ _ t) o s))
    (λ w. idle ds b inv))
    (λ u. idle ds b inv))
    (λ t. idle ds b inv)

-- lift
after_lift : (ds : Effects) (b : Model) → Inv ds b → (r : ℕ) → r < length b.entries → (at b.entries r).state ≡ Held →
    Inv (lifted r ∷ ds) (with_entries b (set b.entries r (with_state (at b.entries r) Standing)))
after_lift ds b inv r lr s = let es = b.entries in let same = length-set es r (with_state (at es r) Standing) in let few = inv.few in record {
  told = inv.told;
  formed = inv.formed;
  few = omega arith;
  static = static_step (lifted r) ds b.vocabulary b.vocabulary es (set es r (with_state (at es r) Standing)) (no_growth b.vocabulary) (kept_set es r Standing lr)
      (no_fresh (lifted r) ds b.vocabulary es (set es r (with_state (at es r) Standing)) same (λ e p h. h) (λ e cites h. h)) inv.static;
  states = states_lift ds es inv.states r lr (held_given ds es inv.states r lr s) s;
}

held_parts : (es : List Entry) (e : ℕ) → T (holds_entry es e) → (e < length es) × ((at es e).state ≡ Held)
held_parts es e t = (ltb→lt _ _ (and_left (ltb e (length es)) (is_held (at es e).state) t), held_is _ (and_right (ltb e (length es)) (is_held (at es e).state) t))

pub step_lift : (ds : Effects) (b : Model) → Inv ds b → (h : Hold) → Inv (effect (lifts h (lift b h).answer) ∷ ds) (lift b h).after
step_lift ds b inv h =
    let Q : Outcome (Unit {0}) Refused → Type 0 = λ o. Inv (effect (lifts h o.answer) ∷ ds) o.after in
    let R : Change (Unit {0}) → Type 0 = λ o. Q (ended b h o) in
    let x = at b.entries h.entry in
    either_way Q (is_own b h) _ _
    (λ own. either_way R (holds_entry b.entries h.entry) _ _
    (λ t. let (l, s) = held_parts b.entries h.entry t in let turns : becomes x.state ToLift x.origin ≡ Standing = rw s refl in
    subst (λ k. Inv (lifted h.entry ∷ ds) (with_entries b (set b.entries h.entry (with_state x k)))) (sym turns)
    (after_lift ds b inv h.entry l s))
    (λ t. idle ds b inv))
    (λ t. idle ds b inv)

-- withdraw
after_withdraw : (ds : Effects) (b : Model) → Inv ds b → (r : ℕ) → r < length b.entries → (at b.entries r).state ≡ Held →
    Inv (withdrew r ∷ ds) (with_entries b (map (lose r) (set b.entries r (with_state (at b.entries r) Withdrawn))))
after_withdraw ds b inv r lr s = let es = b.entries in let same = as_many ds b.vocabulary es inv.static inv.states r lr s in let few = inv.few in record {
  told = inv.told;
  formed = inv.formed;
  few = omega arith;
  static = static_step (withdrew r) ds b.vocabulary b.vocabulary es (map (lose r) (set es r (with_state (at es r) Withdrawn))) (no_growth b.vocabulary)
      (kept_without ds b.vocabulary es inv.static inv.states r lr s)
      (no_fresh (withdrew r) ds b.vocabulary es (map (lose r) (set es r (with_state (at es r) Withdrawn))) same (λ e p h. h) (λ e cites h. h)) inv.static;
  states = states_withdraw ds b.vocabulary es inv.static inv.states r lr s;
}

pub step_withdraw : (ds : Effects) (b : Model) → Inv ds b → (h : Hold) → Inv (effect (withdraws h (withdraw b h).answer) ∷ ds) (withdraw b h).after
step_withdraw ds b inv h =
    let Q : Outcome (ℕ × ℕ) Refused → Type 0 = λ o. Inv (effect (withdraws h o.answer) ∷ ds) o.after in
    let R : Change (ℕ × ℕ) → Type 0 = λ o. Q (ended b h o) in
    let x = at b.entries h.entry in
    either_way Q (is_own b h) _ _
    (λ own. either_way R (holds_entry b.entries h.entry) _ _
    (λ t. let (l, s) = held_parts b.entries h.entry t in let turns : becomes x.state ToWithdraw x.origin ≡ Withdrawn = rw s refl in
    subst (λ k. Inv (withdrew h.entry ∷ ds) (with_entries b (map (lose h.entry) (set b.entries h.entry (with_state x k))))) (sym turns)
    (after_withdraw ds b inv h.entry l s))
    (λ t. idle ds b inv))
    (λ t. idle ds b inv)
