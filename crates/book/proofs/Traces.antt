-- From the law over effects to the law over calls and their answers.
use Rattle.std.proofs.Common.{◌≡◌, ℕ, T, ◌⊎◌, List, [], ◌∷◌, map, Ok, Err, sym, refl, ap, ◌∙◌, subst, inl, inr, ⊎_elim}
use Rattle.logic.specs.Meanings.{Value, Structure, Interpretation, true_in}
use Rattle.calculus.specs.declared.step.Step.{Step}
use Rattle.calculus.specs.Derivations.{root}
use Rattle.book.specs.Books.{Model}
use Rattle.book.specs.Runs.{Event, enters, gives, concludes, holds, previews, lifts, withdraws, asks_entry, asks_predicate}
use Rattle.book.specs.Law.{Trace, Once, Gives, Accepts, Reaches, HoldsNow, Lifts, Withdraws, WasGiven, Accepted, IsWithdrawn, IsHeld, Support, itself, cited, WithdrawnSince, AcceptedWhileHeld, describes, described, SaysStands, Law}
use Rattle.book.proofs.Reading.{asks_agree}
use Rattle.book.proofs.Effects as effects
use Rattle.book.proofs.Effects.{Effect, named, gave, concluded_by, put_on_hold, lifted, withdrew, nothing, effect, EffectsLaw}

-- the call that has an effect
abbrev Back : Event → Effect → Type 0
Back x (named c n) = Unit {0}
Back x (gave n q) = Gives n q x
Back x (concluded_by n cs g) = (steps : List Step) × (hypotheses : List ℕ) × (x ≡ concludes steps hypotheses cs (Ok n)) × ((root steps hypotheses).goal ≡ g)
Back x (put_on_hold n) = Unit {0}
Back x (lifted n) = Lifts n x
Back x (withdrew n) = Withdraws n x
Back x nothing = Unit {0}

back : (x : Event) → Back x (effect x)
back (enters c (Ok n)) = tt
back (enters c (Err why)) = tt
back (gives p (Ok e)) = refl
back (gives p (Err why)) = tt
back (concludes steps hypotheses cites (Ok e)) = (steps, hypotheses, refl, refl)
back (concludes steps hypotheses cites (Err why)) = tt
back (holds e (Ok h)) = tt
back (holds e (Err why)) = tt
back (previews h answer) = tt
back (lifts h (Ok u)) = (h, refl, refl)
back (lifts h (Err why)) = tt
back (withdraws h (Ok fell)) = (h, fell, refl, refl)
back (withdraws h (Err why)) = tt
back (asks_entry e answer) = tt
back (asks_predicate p answer) = tt

is_gave : (e p : ℕ) (d : Effect) → effects.Gives e p d → d ≡ gave e p
is_gave e p (named c n) h = absurd h
is_gave e p (gave n q) (h, k) = λ i. gave (h i) (k i)
is_gave e p (concluded_by n cs g) h = absurd h
is_gave e p (put_on_hold n) h = absurd h
is_gave e p (lifted n) h = absurd h
is_gave e p (withdrew n) h = absurd h
is_gave e p nothing h = absurd h

is_concluded : (e : ℕ) (cites : List ℕ) (d : Effect) → effects.Accepts e cites d → (g : ℕ) × (d ≡ concluded_by e cites g)
is_concluded e cites (named c n) h = absurd h
is_concluded e cites (gave n q) h = absurd h
is_concluded e cites (concluded_by n cs g) (h, k) = (g, λ i. concluded_by (h i) (k i) g)
is_concluded e cites (put_on_hold n) h = absurd h
is_concluded e cites (lifted n) h = absurd h
is_concluded e cites (withdrew n) h = absurd h
is_concluded e cites nothing h = absurd h

is_withdrew : (r : ℕ) (d : Effect) → effects.Withdraws r d → d ≡ withdrew r
is_withdrew r (named c n) h = absurd h
is_withdrew r (gave n q) h = absurd h
is_withdrew r (concluded_by n cs g) h = absurd h
is_withdrew r (put_on_hold n) h = absurd h
is_withdrew r (lifted n) h = absurd h
is_withdrew r (withdrew n) h = ap withdrew h
is_withdrew r nothing h = absurd h

is_freed : (r : ℕ) (d : Effect) → effects.Frees r d → (d ≡ lifted r) ⊎ (d ≡ withdrew r)
is_freed r (named c n) h = absurd h
is_freed r (gave n q) h = absurd h
is_freed r (concluded_by n cs g) h = absurd h
is_freed r (put_on_hold n) h = absurd h
is_freed r (lifted n) h = inl (ap lifted h)
is_freed r (withdrew n) h = inr (ap withdrew h)
is_freed r nothing h = absurd h

is_reached : (e p : ℕ) (d : Effect) → effects.Reaches e p d → (cites : List ℕ) × (d ≡ concluded_by e cites p)
is_reached e p (named c n) h = absurd h
is_reached e p (gave n q) h = absurd h
is_reached e p (concluded_by n cs g) (h, k) = (cs, λ i. concluded_by (h i) cs (k i))
is_reached e p (put_on_hold n) h = absurd h
is_reached e p (lifted n) h = absurd h
is_reached e p (withdrew n) h = absurd h
is_reached e p nothing h = absurd h

-- one call and its effect
gives_from : (e p : ℕ) (x : Event) → effects.Gives e p (effect x) → Gives e p x
gives_from e p x h = subst (Back x) (is_gave e p (effect x) h) (back x)

gives_to : (e p : ℕ) (x : Event) → Gives e p x → effects.Gives e p (effect x)
gives_to e p x q = subst (λ y. effects.Gives e p (effect y)) (sym q) (refl, refl)

accepts_from : (e : ℕ) (cites : List ℕ) (x : Event) → effects.Accepts e cites (effect x) → Accepts e cites x
accepts_from e cites x h = let (g, q) = is_concluded e cites (effect x) h in let (steps, hypotheses, p, s) = subst (Back x) q (back x) in (steps, hypotheses, p)

reaches_from : (e p : ℕ) (x : Event) → effects.Reaches e p (effect x) → Reaches e p x
reaches_from e p x h = let (cites, q) = is_reached e p (effect x) h in let (steps, hypotheses, r, s) = subst (Back x) q (back x) in (steps, hypotheses, cites, r, s)

reaches_to : (e p : ℕ) (x : Event) → Reaches e p x → effects.Reaches e p (effect x)
reaches_to e p x (steps, hypotheses, cites, q, s) = subst (λ y. effects.Reaches e p (effect y)) (sym q) (refl, s)

accepts_to : (e : ℕ) (cites : List ℕ) (x : Event) → Accepts e cites x → effects.Accepts e cites (effect x)
accepts_to e cites x (steps, hypotheses, q) = subst (λ y. effects.Accepts e cites (effect y)) (sym q) (refl, refl)

withdraws_from : (r : ℕ) (x : Event) → effects.Withdraws r (effect x) → Withdraws r x
withdraws_from r x h = subst (Back x) (is_withdrew r (effect x) h) (back x)

withdraws_to : (r : ℕ) (x : Event) → Withdraws r x → effects.Withdraws r (effect x)
withdraws_to r x (h, fell, q, s) = subst (λ y. effects.Withdraws r (effect y)) (sym q) s

holds_to : (r : ℕ) (x : Event) → HoldsNow r x → effects.HoldsNow r (effect x)
holds_to r x (e, h, q, s) = subst (λ y. effects.HoldsNow r (effect y)) (sym q) s

frees_from : (r : ℕ) (x : Event) → effects.Frees r (effect x) → Lifts r x ⊎ Withdraws r x
frees_from r x h = ⊎_elim (λ e. inl (subst (Back x) e (back x))) (λ e. inr (subst (Back x) e (back x))) (is_freed r (effect x) h)

-- all calls and their effects
once_to : (P : Event → Type 0) (Q : Effect → Type 0) → ((x : Event) → P x → Q (effect x)) → (t : Trace) → Once P t → Once Q (map effect t)
once_to P Q f [] h = h
once_to P Q f (x ∷ t) (inl h) = inl (f x h)
once_to P Q f (x ∷ t) (inr h) = inr (once_to P Q f t h)

once_from : (P : Event → Type 0) (Q : Effect → Type 0) → ((x : Event) → Q (effect x) → P x) → (t : Trace) → Once Q (map effect t) → Once P t
once_from P Q f [] h = h
once_from P Q f (x ∷ t) (inl h) = inl (f x h)
once_from P Q f (x ∷ t) (inr h) = inr (once_from P Q f t h)

accepted_to : (t : Trace) (e : ℕ) → Accepted t e → effects.Accepted (map effect t) e
accepted_to t e (cites, h) = (cites, once_to (Accepts e cites) (effects.Accepts e cites) (accepts_to e cites) t h)

accepted_from : (t : Trace) (e : ℕ) → effects.Accepted (map effect t) e → Accepted t e
accepted_from t e (cites, h) = (cites, once_from (Accepts e cites) (effects.Accepts e cites) (accepts_from e cites) t h)

support_to : (t : Trace) (e r : ℕ) → Support t e r → effects.Support (map effect t) e r
support_to t e r (itself p h) = effects.itself p (once_to (Gives r p) (effects.Gives r p) (gives_to r p) t h)
support_to t e r (cited cites h c i f) = effects.cited cites (once_to (Accepts e cites) (effects.Accepts e cites) (accepts_to e cites) t h) c i (support_to t c r f)

support_from : (t : Trace) (e r : ℕ) → effects.Support (map effect t) e r → Support t e r
support_from t e r (effects.itself p h) = itself p (once_from (Gives r p) (effects.Gives r p) (gives_from r p) t h)
support_from t e r (effects.cited cites h c i f) = cited cites (once_from (Accepts e cites) (effects.Accepts e cites) (accepts_from e cites) t h) c i (support_from t c r f)

since_to : (t : Trace) (e r : ℕ) → WithdrawnSince t e r → effects.WithdrawnSince (map effect t) e r
since_to [] e r h = h
since_to (x ∷ t) e r (inl (h, a)) = inl (withdraws_to r x h, accepted_to t e a)
since_to (x ∷ t) e r (inr h) = inr (since_to t e r h)

since_from : (t : Trace) (e r : ℕ) → effects.WithdrawnSince (map effect t) e r → WithdrawnSince t e r
since_from [] e r h = h
since_from (x ∷ t) e r (inl (h, a)) = inl (withdraws_from r x h, accepted_from t e a)
since_from (x ∷ t) e r (inr h) = inr (since_from t e r h)

held_to : (t : Trace) (r : ℕ) → IsHeld t r → effects.IsHeld (map effect t) r
held_to [] r h = h
held_to (x ∷ t) r (inl h) = inl (holds_to r x h)
held_to (x ∷ t) r (inr (h, l, w)) = inr (held_to t r h, λ f. ⊎_elim l w (frees_from r x f))

while_to : (t : Trace) (e r : ℕ) → AcceptedWhileHeld t e r → effects.AcceptedWhileHeld (map effect t) e r
while_to [] e r h = h
while_to (x ∷ t) e r (inl ((cites, a), h)) = inl ((cites, accepts_to e cites x a), held_to t r h)
while_to (x ∷ t) e r (inr h) = inr (while_to t e r h)

described_same : (t : Trace) → effects.described (map effect t) ≡ described t
described_same [] = refl
described_same (x ∷ t) = told x ∙ ap (describes x) (described_same t)
  where
    told : (x : Event) → effects.described (effect x ∷ map effect t) ≡ describes x (effects.described (map effect t))
    told (enters c (Ok n)) = refl
    told (enters c (Err why)) = refl
    told (gives p (Ok e)) = refl
    told (gives p (Err why)) = refl
    told (concludes steps hypotheses cites (Ok e)) = refl
    told (concludes steps hypotheses cites (Err why)) = refl
    told (holds e (Ok h)) = refl
    told (holds e (Err why)) = refl
    told (previews h answer) = refl
    told (lifts h (Ok u)) = refl
    told (lifts h (Err why)) = refl
    told (withdraws h (Ok fell)) = refl
    told (withdraws h (Err why)) = refl
    told (asks_entry e answer) = refl
    told (asks_predicate p answer) = refl

pub law_of_calls : (t : Trace) (b : Model) → EffectsLaw (map effect t) b → Law t b
law_of_calls t b law = record {
  sound = subst (λ v. (p : ℕ) → SaysStands b p → (w : Structure) (f : ℕ → Value) → Interpretation v w f →
      ((r q : ℕ) → WasGiven t r q → (IsWithdrawn t r → ⊥) → T (true_in v w f q)) → T (true_in v w f p)) (described_same t)
      λ p says w f fits hyp. law.sound p says w f fits λ r q g n.
      hyp r q (once_from (Gives r q) (effects.Gives r q) (gives_from r q) t g) (λ h. n (once_to (Withdraws r) (effects.Withdraws r) (withdraws_to r) t h));
  stands_when = λ e. (
    λ says. let (a, n) = (law.stands_when e).0 says in (accepted_from t e a, λ r support since. n r (support_to t e r support) (since_to t e r since)),
    λ (a, n). (law.stands_when e).1 (accepted_to t e a, λ r support since. n r (support_from t e r support) (since_from t e r since)),
  );
  given_stands = λ e. (
    λ says. let ((p, h), n) = (law.given_stands e).0 says in (
      (p, once_from (Gives e p) (effects.Gives e p) (gives_from e p) t h),
      λ w. n (once_to (Withdraws e) (effects.Withdraws e) (withdraws_to e) t w),
    ),
    λ ((p, h), n). (law.given_stands e).1 (
      (p, once_to (Gives e p) (effects.Gives e p) (gives_to e p) t h),
      λ w. n (once_from (Withdraws e) (effects.Withdraws e) (withdraws_from e) t w),
    ),
  );
  entries = λ e p. let ((a, c), (k, l)) = law.entries e p in (
    (λ says. once_from (Gives e p) (effects.Gives e p) (gives_from e p) t (a says), λ h. c (once_to (Gives e p) (effects.Gives e p) (gives_to e p) t h)),
    (λ says. once_from (Reaches e p) (effects.Reaches e p) (reaches_from e p) t (k says), λ h. l (once_to (Reaches e p) (effects.Reaches e p) (reaches_to e p) t h)),
  );
  asks_agree = λ p. asks_agree b p;
  untainted = λ e r a support. law.untainted e r (while_to t e r a) (support_to t e r support);
}
