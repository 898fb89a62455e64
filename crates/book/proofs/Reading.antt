-- The law, from what agrees between the effects and the book.
use Rattle.std.proofs.Common.{◌≡◌, ℕ, ◌<◌, ◌≤◌, Bool, true, false, cond, T, eqb, ltb, ◌↔◌, List, [], ◌∷◌, length, get_or, Some, None, Ok, Err, position, sym, refl, ap, ◌∙◌, subst, inl, inr, ⊎_elim, eqb→eq, ltb→lt, lt→ltb}
use Rattle.std.proofs.lemmas.Bool.{cases_lt}
use Rattle.std.proofs.lemmas.List.Quantifiers.{position-Some}
use Rattle.entries.proofs.Placing.{position-None}
use lib.Dec.{eqb_refl}
use Rattle.logic.specs.Formulas.{Vocabulary, WellFormed}
use Rattle.logic.specs.Deciding.{is_predicate}
use Rattle.logic.specs.Meanings.{Value, Structure, Interpretation, true_in}
use Rattle.states.specs.declared.entry.Entry.{Entry}
use Rattle.states.specs.declared.entry.EntryFacts.{EntryFacts}
use Rattle.states.specs.declared.entry.Origin.{Origin}
use Rattle.states.specs.declared.entry.Origin.TheVariants.{Given, Concluded}
use Rattle.states.specs.declared.entry.State.TheVariants.{Standing}
use Rattle.states.specs.declared.refusal.Refusal.TheVariants.{NotAPredicate, UnknownEntry}
use Rattle.states.specs.States.{stands}
use Rattle.states.specs.Support.{in_support, facts, stands_with}
use Rattle.entries.specs.Lists.{no_entry, at}
use Rattle.book.specs.Books.{Model, ask_entry, ask_predicate}
use Rattle.book.specs.Law.{Once, Says, SaysOf, SaysStands, AsksAgree}
use Rattle.book.proofs.Effects.{Effects, described, Reaches, WasGiven, Accepted, IsWithdrawn, Support, itself, cited, WithdrawnSince, EffectsLaw}
use Rattle.book.proofs.Tests.{and_both, and_left, and_right}
use Rattle.book.proofs.Static.{origin_is, Static}
use Rattle.book.proofs.EntryStates.{States}
use Rattle.book.proofs.Changes.{TIs}

pub record Inv (ds : Effects) (b : Model) : Type 0 where
  pub told : described ds ≡ b.vocabulary
  pub formed : WellFormed b.vocabulary
  pub few : length b.entries ≤ 512
  pub static : Static ds b.vocabulary b.entries
  pub states : States ds b.entries

module _ (ds : Effects) (v : Vocabulary) (es : List Entry) (static : Static ds v es) where
  pub support_in : (e r : ℕ) → Support ds e r → T (in_support r (at es e))
  support_in e r (itself p h) = let (lt, o, q) = static.given_in r p h in (static.own r lt o r).1 refl
  support_in e r (cited cites h c i f) = ((static.concluded_in e cites h).2 c i).1 r (support_in c r f)

  module _ (states : States ds es) where
    pub unwithdrawn : (e : ℕ) → e < length es → T (stands (at es e).state) → (r : ℕ) → T (in_support r (at es e)) → IsWithdrawn ds r → ⊥
    unwithdrawn e lt s r t w = ⊎_elim
        (λ o. let same = (static.own e lt o r).0 t in
        subst (λ x. T (stands x)) (states.withdrawn_in r w).1 (subst (λ k. T (stands (at es k).state)) same s))
        (λ o. subst (λ x. T (stands x)) (states.fallen_in e lt o r t w) s)
        (origin_is (at es e).origin)

    pub true_there : (e : ℕ) → e < length es → T (stands (at es e).state) → (w : Structure) (f : ℕ → Value) → Interpretation v w f →
        ((r q : ℕ) → WasGiven ds r q → (IsWithdrawn ds r → ⊥) → T (true_in v w f q)) → T (true_in v w f (at es e).predicate)
    true_there e lt s w f fits hyp = static.follows e lt w f fits λ r t. let (support, lr, o) = static.rules e lt r t in
        hyp r (at es r).predicate (static.given_out r lr o) (unwithdrawn e lt s r t)

pub since_withdrawn : (ds : Effects) (e r : ℕ) → WithdrawnSince ds e r → IsWithdrawn ds r
since_withdrawn [] e r h = h
since_withdrawn (d ∷ ds) e r (inl h) = inl h.0
since_withdrawn (d ∷ ds) e r (inr h) = inr (since_withdrawn ds e r h)

-- answers
pub granted_by : {A B : Type 0} (b : Bool) (x y : A) (z : B) → cond b (Ok x) (Err z) ≡ Ok y → T b × (x ≡ y)
granted_by true x y z e = (tt, cc)
granted_by false x y z e = cc

pub asked_entry : (b : Model) (e : ℕ) (t : EntryFacts) → ask_entry b e ≡ Ok t → (e < length b.entries) × (facts (at b.entries e) ≡ t)
asked_entry b e t h = let (l, s) = granted_by (ltb e (length b.entries)) (facts (at b.entries e)) t UnknownEntry h in (ltb→lt _ _ l, s)

pub told_entry : (b : Model) (e : ℕ) → e < length b.entries → ask_entry b e ≡ Ok (facts (at b.entries e))
told_entry b e lt = rw (TIs _ (lt→ltb e (length b.entries) lt)) refl

asked_predicate : (b : Model) (p e : ℕ) → ask_predicate b p ≡ Ok (Some e) →
    (e < length b.entries) × ((at b.entries e).predicate ≡ p) × T (stands (at b.entries e).state)
asked_predicate b p e h =
    let (l, s) = granted_by (is_predicate b.vocabulary p) (position (stands_with p) b.entries) (Some e) NotAPredicate h in
    let (lt, passes, before) = position-Some (stands_with p) b.entries e no_entry s in
    let t = subst T (sym passes) tt in
    (lt, eqb→eq _ _ (and_left _ _ t), and_right _ _ t)

-- the two asks
-- what passes is not before the first place
not_passed : (p : Entry → Bool) (xs : List Entry) (n j : ℕ) → position p xs ≡ Some n → T (p (get_or xs j no_entry)) → n ≤ j
not_passed p xs n j e t = ⊎_elim (λ (l : j < n). absurd (subst T ((position-Some p xs n no_entry e).2 j l) t)) (λ (l : n ≤ j). l) (cases_lt j n)

module _ (b : Model) (p : ℕ) where
  passes_test : (i : ℕ) (o : Origin) → SaysOf b i o p → (i < length b.entries) × T (stands_with p (at b.entries i))
  passes_test i o says = let (lt, s) = asked_entry b i _ says.answer in (
    lt,
    and_both (eqb (at b.entries i).predicate p) (stands (at b.entries i).state)
        (subst (λ k. T (eqb k p)) (sym (ap (λ t. t.predicate) s)) (eqb_refl p)) (subst (λ k. T (stands k)) (sym (ap (λ t. t.state) s)) says.stands_so),
  )

  pub asks_agree : AsksAgree b p
  asks_agree = record {
    one = λ e h. let (l, s) = granted_by (is_predicate b.vocabulary p) (position (stands_with p) b.entries) (Some e) NotAPredicate h in
        let (lt, q, t) = asked_predicate b p e h in (
          (
            (at b.entries e).origin,
            record {
              state = (at b.entries e).state;
              stands_so = t;
              answer = told_entry b e lt ∙ (λ i. Ok (record { origin = (at b.entries e).origin; predicate = q i; state = (at b.entries e).state }));
            },
          ),
          λ i o says. let (li, u) = passes_test i o says in not_passed (stands_with p) b.entries e i s u,
        );
    none = λ h i o says. let (l, s) = granted_by (is_predicate b.vocabulary p) (position (stands_with p) b.entries) None NotAPredicate h in
        let (li, u) = passes_test i o says in subst T (position-None (stands_with p) b.entries i no_entry s li) u;
  }

module _ (ds : Effects) (b : Model) (inv : Inv ds b) where
  abbrev SoundIn : Vocabulary → Type 0
  SoundIn v = (p : ℕ) → SaysStands b p → (w : Structure) (f : ℕ → Value) → Interpretation v w f →
      ((r q : ℕ) → WasGiven ds r q → (IsWithdrawn ds r → ⊥) → T (true_in v w f q)) → T (true_in v w f p)

  sound_in : SoundIn b.vocabulary
  sound_in p (inl (e, o, says)) w f fits hyp = let (lt, s) = asked_entry b e _ says.answer in
      subst (λ k. T (true_in b.vocabulary w f k)) (ap (λ t. t.predicate) s)
      (true_there ds b.vocabulary b.entries inv.static inv.states e lt
      (subst (λ k. T (stands k)) (sym (ap (λ t. t.state) s)) says.stands_so) w f fits hyp)
  sound_in p (inr (e, h)) w f fits hyp = let (lt, s, t) = asked_predicate b p e h in
      subst (λ k. T (true_in b.vocabulary w f k)) s (true_there ds b.vocabulary b.entries inv.static inv.states e lt t w f fits hyp)

  stands_then : (e : ℕ) → (p : ℕ) × SaysOf b e Concluded p → Accepted ds e × ((r : ℕ) → Support ds e r → WithdrawnSince ds e r → ⊥)
  stands_then e (p, says) = let (lt, s) = asked_entry b e _ says.answer in (
    inv.static.concluded_out e lt (ap (λ t. t.origin) s),
    λ r support since. unwithdrawn ds b.vocabulary b.entries inv.static inv.states e lt
        (subst (λ k. T (stands k)) (sym (ap (λ t. t.state) s)) says.stands_so) r
        (support_in ds b.vocabulary b.entries inv.static e r support) (since_withdrawn ds e r since),
  )

  stands_if : (e : ℕ) → Accepted ds e × ((r : ℕ) → Support ds e r → WithdrawnSince ds e r → ⊥) → (p : ℕ) × SaysOf b e Concluded p
  stands_if e ((cites, h), none) = let (lt, o, rest) = inv.static.concluded_in e cites h in ⊎_elim
      (λ s. (
        (at b.entries e).predicate,
        record {
          state = Standing;
          stands_so = tt;
          answer = told_entry b e lt ∙ (λ i. Ok (record { origin = o i; predicate = (at b.entries e).predicate; state = s i }));
        },
      ))
      (λ (r, s, t, w). absurd (none r (inv.static.rules e lt r t).0 w))
      (inv.states.concluded_state e lt o)

  given_then : (e : ℕ) → (p : ℕ) × SaysOf b e Given p → ((p : ℕ) × WasGiven ds e p) × (IsWithdrawn ds e → ⊥)
  given_then e (p, says) = let (lt, s) = asked_entry b e _ says.answer in (
    ((at b.entries e).predicate, inv.static.given_out e lt (ap (λ t. t.origin) s)),
    λ w. subst (λ x. T (stands x)) (sym (ap (λ t. t.state) s) ∙ (inv.states.withdrawn_in e w).1) says.stands_so,
  )

  given_if : (e : ℕ) → ((p : ℕ) × WasGiven ds e p) × (IsWithdrawn ds e → ⊥) → (p : ℕ) × SaysOf b e Given p
  given_if e ((p, h), none) = let (lt, o, q) = inv.static.given_in e p h in ⊎_elim
      (λ s. (
        p,
        record {
          state = (at b.entries e).state;
          stands_so = s;
          answer = told_entry b e lt ∙ (λ i. Ok (record { origin = o i; predicate = q i; state = (at b.entries e).state }));
        },
      ))
      (λ w. absurd (none w))
      (inv.states.given_state e lt o)

  told_of : (e p : ℕ) (o : Origin) → Says b e o p → (e < length b.entries) × ((at b.entries e).origin ≡ o) × ((at b.entries e).predicate ≡ p)
  told_of e p o (s, h) = let (lt, t) = asked_entry b e _ h in (lt, ap (λ k. k.origin) t, ap (λ k. k.predicate) t)

  says_of : (e p : ℕ) (o : Origin) → e < length b.entries → (at b.entries e).origin ≡ o → (at b.entries e).predicate ≡ p → Says b e o p
  says_of e p o lt q r = ((at b.entries e).state, told_entry b e lt ∙ (λ i. Ok (record { origin = q i; predicate = r i; state = (at b.entries e).state })))

  entries_are : (e p : ℕ) → (Says b e Given p ↔ WasGiven ds e p) × (Says b e Concluded p ↔ Once (Reaches e p) ds)
  entries_are e p = (
    (
      λ says. let (lt, o, q) = told_of e p Given says in subst (WasGiven ds e) q (inv.static.given_out e lt o),
      λ h. let (lt, o, q) = inv.static.given_in e p h in says_of e p Given lt o q,
    ),
    (
      λ says. let (lt, o, q) = told_of e p Concluded says in subst (λ k. Once (Reaches e k) ds) q (inv.static.reached_out e lt o),
      λ h. let (lt, o, q) = inv.static.reached_in e p h in says_of e p Concluded lt o q,
    ),
  )

  pub law : EffectsLaw ds b
  law = record {
    sound = subst SoundIn (sym inv.told) sound_in;
    entries = entries_are;
    stands_when = λ e. (stands_then e, stands_if e);
    given_stands = λ e. (given_then e, given_if e);
    untainted = λ e r a support. (inv.static.clean e r a).1 (support_in ds b.vocabulary b.entries inv.static e r support);
  }
