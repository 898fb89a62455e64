-- What the effects say of entries, supports and predicates agrees with the book, and stays so.
use Rattle.std.proofs.Common.{◌≡◌, ℕ, ◌<◌, ◌≤◌, T, ◌⊎◌, ◌↔◌, List, ◌∷◌, length, sym, refl, ap, ◌∙◌, subst, inl, inr, ⊎_elim, arith}
use Rattle.std.proofs.lemmas.Bool.{cases_lt}
use Rattle.logic.specs.Formulas.{In, Vocabulary}
use Rattle.logic.specs.Meanings.{Value, Structure, meaning, holds as holds-value, Interpretation, true_in}
use Rattle.states.specs.declared.entry.Entry.{Entry}
use Rattle.states.specs.declared.entry.Origin.{Origin}
use Rattle.states.specs.declared.entry.Origin.TheVariants.{Given, Concluded}
use Rattle.states.specs.Support.{in_support}
use Rattle.entries.specs.Lists.{at}
use Rattle.book.specs.Law.{Once}
use Rattle.book.proofs.Effects.{Effect, named, gave, concluded_by, put_on_hold, lifted, withdrew, nothing, Effects, Gives, Accepts, Reaches, WasGiven, WasConcluded, Accepted, IsHeld, Support, itself, cited, AcceptedWhileHeld}

pub origin_is : (o : Origin) → (o ≡ Given) ⊎ (o ≡ Concluded)
origin_is Given = inl refl
origin_is Concluded = inr refl

pub origins_differ : (o : Origin) → o ≡ Given → o ≡ Concluded → ⊥
origins_differ o p q = cc

-- a vocabulary and what it has grown to: what was there means the same
pub record Growing (v v' : Vocabulary) : Type 0 where
  pub more : length v.formulas ≤ length v'.formulas
  pub means : (w : Structure) (n : ℕ) → n < length v.formulas → meaning v' w n ≡ meaning v w n
  pub fits : (w : Structure) (f : ℕ → Value) → Interpretation v' w f → Interpretation v w f

pub no_growth : (v : Vocabulary) → Growing v v
no_growth v = record { more = omega arith; means = λ w n h. refl; fits = λ w f h. h }

-- old entries keep all but their states
abbrev pub Kept : List Entry → List Entry → Type 0
Kept es es' = (e : ℕ) → e < length es →
    (e < length es') × ((at es' e).origin ≡ (at es e).origin) × ((at es' e).predicate ≡ (at es e).predicate) × ((at es' e).support ≡ (at es e).support)

pub record Static (ds : Effects) (v : Vocabulary) (es : List Entry) : Type 0 where
  pub given_in : (e p : ℕ) → WasGiven ds e p → (e < length es) × ((at es e).origin ≡ Given) × ((at es e).predicate ≡ p)
  pub given_out : (e : ℕ) → e < length es → (at es e).origin ≡ Given → WasGiven ds e (at es e).predicate
  pub concluded_in : (e : ℕ) (cites : List ℕ) → WasConcluded ds e cites → (e < length es) × ((at es e).origin ≡ Concluded) ×
      ((c : ℕ) → In c cites → (c < length es) × ((r : ℕ) → T (in_support r (at es c)) → T (in_support r (at es e))))
  pub concluded_out : (e : ℕ) → e < length es → (at es e).origin ≡ Concluded → Accepted ds e
  pub reached_in : (e p : ℕ) → Once (Reaches e p) ds → (e < length es) × ((at es e).origin ≡ Concluded) × ((at es e).predicate ≡ p)
  pub reached_out : (e : ℕ) → e < length es → (at es e).origin ≡ Concluded → Once (Reaches e (at es e).predicate) ds
  pub own : (e : ℕ) → e < length es → (at es e).origin ≡ Given → (r : ℕ) → T (in_support r (at es e)) ↔ (e ≡ r)
  pub rules : (e : ℕ) → e < length es → (r : ℕ) → T (in_support r (at es e)) → Support ds e r × (r < length es) × ((at es r).origin ≡ Given)
  pub follows : (e : ℕ) → e < length es → (w : Structure) (f : ℕ → Value) → Interpretation v w f →
      ((r : ℕ) → T (in_support r (at es e)) → T (true_in v w f (at es r).predicate)) → T (true_in v w f (at es e).predicate)
  pub known : (e : ℕ) → e < length es → (at es e).predicate < length v.formulas
  pub clean : (e r : ℕ) → AcceptedWhileHeld ds e r → (e < length es) × (T (in_support r (at es e)) → ⊥)

-- what an effect brings that is new
pub record Fresh (d : Effect) (ds : Effects) (v : Vocabulary) (es es' : List Entry) : Type 0 where
  pub gives_new : (e p : ℕ) → Gives e p d → (e < length es') × ((at es' e).origin ≡ Given) × ((at es' e).predicate ≡ p)
  pub given_new : (e : ℕ) → length es ≤ e → e < length es' → (at es' e).origin ≡ Given → Gives e (at es' e).predicate d
  pub accepts_new : (e : ℕ) (cites : List ℕ) → Accepts e cites d → (e < length es') × ((at es' e).origin ≡ Concluded) ×
      ((c : ℕ) → In c cites → (c < length es) × ((r : ℕ) → T (in_support r (at es c)) → T (in_support r (at es' e))))
  pub accepted_new : (e : ℕ) → length es ≤ e → e < length es' → (at es' e).origin ≡ Concluded → (cites : List ℕ) × Accepts e cites d ×
      ((r : ℕ) → T (in_support r (at es' e)) → (c : ℕ) × In c cites × T (in_support r (at es c))) ×
      ((w : Structure) (f : ℕ → Value) → Interpretation v w f → ((c : ℕ) → In c cites → T (true_in v w f (at es c).predicate)) → T (true_in v w f (at es' e).predicate))
  pub reaches_new : (e p : ℕ) → Reaches e p d → (e < length es') × ((at es' e).origin ≡ Concluded) × ((at es' e).predicate ≡ p)
  pub reached_new : (e : ℕ) → length es ≤ e → e < length es' → (at es' e).origin ≡ Concluded → Reaches e (at es' e).predicate d
  pub own_new : (e : ℕ) → length es ≤ e → e < length es' → (at es' e).origin ≡ Given → (r : ℕ) → T (in_support r (at es' e)) ↔ (e ≡ r)
  pub known_new : (e : ℕ) → length es ≤ e → e < length es' → (at es' e).predicate < length v.formulas
  pub untainted_new : (e r : ℕ) (cites : List ℕ) → Accepts e cites d → IsHeld ds r → T (in_support r (at es' e)) → ⊥

pub support_later : (d : Effect) (ds : Effects) (e r : ℕ) → Support ds e r → Support (d ∷ ds) e r
support_later d ds e r (itself p h) = itself p (inr h)
support_later d ds e r (cited cites h c i f) = cited cites (inr h) c i (support_later d ds c r f)

module _ (d : Effect) (ds : Effects) (v v' : Vocabulary) (es es' : List Entry) (grow : Growing v v') (kept : Kept es es')
    (new : Fresh d ds v' es es') (old : Static ds v es) where
  true_stays : (w : Structure) (f : ℕ → Value) (n : ℕ) → n < length v.formulas → true_in v' w f n ≡ true_in v w f n
  true_stays w f n h = ap (λ g. holds-value (g f)) (grow.means w n h)

  given_in' : (e p : ℕ) → WasGiven (d ∷ ds) e p → (e < length es') × ((at es' e).origin ≡ Given) × ((at es' e).predicate ≡ p)
  given_in' e p (inl h) = new.gives_new e p h
  given_in' e p (inr h) = let (lt, o, q) = old.given_in e p h in let (lt', ko, kp, kf) = kept e lt in (lt', ko ∙ o, kp ∙ q)

  given_out' : (e : ℕ) → e < length es' → (at es' e).origin ≡ Given → WasGiven (d ∷ ds) e (at es' e).predicate
  given_out' e lt o = ⊎_elim
      (λ l. let (lt', ko, kp, kf) = kept e l in inr (subst (WasGiven ds e) (sym kp) (old.given_out e l (sym ko ∙ o))))
      (λ l. inl (new.given_new e l lt o)) (cases_lt e (length es))

  concluded_in' : (e : ℕ) (cites : List ℕ) → WasConcluded (d ∷ ds) e cites → (e < length es') × ((at es' e).origin ≡ Concluded) ×
      ((c : ℕ) → In c cites → (c < length es') × ((r : ℕ) → T (in_support r (at es' c)) → T (in_support r (at es' e))))
  concluded_in' e cites (inl h) = let (lt, o, f) = new.accepts_new e cites h in
      (lt, o, λ c i. let (lc, g) = f c i in let (lc', ko, kp, kf) = kept c lc in (lc', λ r t. g r (rw kf at t)))
  concluded_in' e cites (inr h) = let (lt, o, f) = old.concluded_in e cites h in let (lt', ko, kp, kf) = kept e lt in
      (lt', ko ∙ o, λ c i. let (lc, g) = f c i in let (lc', co, cp, cf) = kept c lc in (lc', λ r t. rw kf (g r (rw cf at t))))

  concluded_out' : (e : ℕ) → e < length es' → (at es' e).origin ≡ Concluded → Accepted (d ∷ ds) e
  concluded_out' e lt o = ⊎_elim
      (λ l. let (lt', ko, kp, kf) = kept e l in let (cites, h) = old.concluded_out e l (sym ko ∙ o) in (cites, inr h))
      (λ l. let (cites, h, f, g) = new.accepted_new e l lt o in (cites, inl h)) (cases_lt e (length es))

  reached_in' : (e p : ℕ) → Once (Reaches e p) (d ∷ ds) → (e < length es') × ((at es' e).origin ≡ Concluded) × ((at es' e).predicate ≡ p)
  reached_in' e p (inl h) = new.reaches_new e p h
  reached_in' e p (inr h) = let (lt, o, q) = old.reached_in e p h in let (lt', ko, kp, kf) = kept e lt in (lt', ko ∙ o, kp ∙ q)

  reached_out' : (e : ℕ) → e < length es' → (at es' e).origin ≡ Concluded → Once (Reaches e (at es' e).predicate) (d ∷ ds)
  reached_out' e lt o = ⊎_elim
      (λ l. let (lt', ko, kp, kf) = kept e l in inr (subst (λ q. Once (Reaches e q) ds) (sym kp) (old.reached_out e l (sym ko ∙ o))))
      (λ l. inl (new.reached_new e l lt o)) (cases_lt e (length es))

  own' : (e : ℕ) → e < length es' → (at es' e).origin ≡ Given → (r : ℕ) → T (in_support r (at es' e)) ↔ (e ≡ r)
  own' e lt o r = ⊎_elim
      (λ l. let (lt', ko, kp, kf) = kept e l in rw kf (old.own e l (sym ko ∙ o) r))
      (λ l. new.own_new e l lt o r) (cases_lt e (length es))

  rules' : (e : ℕ) → e < length es' → (r : ℕ) → T (in_support r (at es' e)) → Support (d ∷ ds) e r × (r < length es') × ((at es' r).origin ≡ Given)
  rules' e lt r t = ⊎_elim
      (λ l. let (lt', ko, kp, kf) = kept e l in from_old e l (rw kf at t))
      (λ l. ⊎_elim
      (λ o. let same = (new.own_new e l lt o r).0 t in
      subst (λ k. Support (d ∷ ds) e k × (k < length es') × ((at es' k).origin ≡ Given)) same
      (itself (at es' e).predicate (inl (new.given_new e l lt o)), lt, o))
      (λ o. let (cites, h, f, g) = new.accepted_new e l lt o in let (c, i, u) = f r t in
      let (m, b) = (new.accepts_new e cites h).2 c i in
      let (support, lr, given-r) = from_old c m u in (cited cites (inl h) c i support, lr, given-r))
      (origin_is (at es' e).origin))
      (cases_lt e (length es))
    where
      from_old : (e : ℕ) → e < length es → T (in_support r (at es e)) → Support (d ∷ ds) e r × (r < length es') × ((at es' r).origin ≡ Given)
      from_old e l t = let (support, lr, o) = old.rules e l r t in let (lr', ko, kp, kf) = kept r lr in (support_later d ds e r support, lr', ko ∙ o)

  follows' : (e : ℕ) → e < length es' → (w : Structure) (f : ℕ → Value) → Interpretation v' w f →
      ((r : ℕ) → T (in_support r (at es' e)) → T (true_in v' w f (at es' r).predicate)) → T (true_in v' w f (at es' e).predicate)
  follows' e lt w f fits hyp = ⊎_elim
      (λ l. let (lt', ko, kp, kf) = kept e l in rw kp (from_old e l λ r t. hyp r (rw kf t)))
      (λ l. ⊎_elim
      (λ o. hyp e ((new.own_new e l lt o e).1 refl))
      (λ o. let (cites, h, g, k) = new.accepted_new e l lt o in
      k w f fits λ c i. let (m, b) = (new.accepts_new e cites h).2 c i in from_old c m λ r t. hyp r (b r t))
      (origin_is (at es' e).origin))
      (cases_lt e (length es))
    where
      from_old : (e : ℕ) → e < length es → ((r : ℕ) → T (in_support r (at es e)) → T (true_in v' w f (at es' r).predicate)) → T (true_in v' w f (at es e).predicate)
      from_old e l hyp =
          rw (true_stays w f (at es e).predicate (old.known e l))
          (old.follows e l w f (grow.fits w f fits) λ r t.
          let (support, lr, o) = old.rules e l r t in let (lr', ko, kp, kf) = kept r lr in
          rw (kp, true_stays w f (at es r).predicate (old.known r lr)) at (hyp r t))

  known' : (e : ℕ) → e < length es' → (at es' e).predicate < length v'.formulas
  known' e lt = ⊎_elim
      (λ l. let (lt', ko, kp, kf) = kept e l in let m = grow.more in let k = old.known e l in rw kp (omega arith))
      (λ l. new.known_new e l lt) (cases_lt e (length es))

  clean' : (e r : ℕ) → AcceptedWhileHeld (d ∷ ds) e r → (e < length es') × (T (in_support r (at es' e)) → ⊥)
  clean' e r (inl ((cites, h), u)) = ((new.accepts_new e cites h).0, new.untainted_new e r cites h u)
  clean' e r (inr h) = let (l, n) = old.clean e r h in let (lt', ko, kp, kf) = kept e l in (lt', λ t. n (rw kf at t))

  pub static_step : Static (d ∷ ds) v' es'
  static_step = record {
    given_in = given_in';
    given_out = given_out';
    concluded_in = concluded_in';
    concluded_out = concluded_out';
    reached_in = reached_in';
    reached_out = reached_out';
    own = own';
    rules = rules';
    follows = follows';
    known = known';
    clean = clean';
  }

reaches_accepts : (e p : ℕ) (d : Effect) → Reaches e p d → (cites : List ℕ) × Accepts e cites d
reaches_accepts e p (named c n) h = absurd h
reaches_accepts e p (gave n q) h = absurd h
reaches_accepts e p (concluded_by n cs g) (h, k) = (cs, (h, refl))
reaches_accepts e p (put_on_hold n) h = absurd h
reaches_accepts e p (lifted n) h = absurd h
reaches_accepts e p (withdrew n) h = absurd h
reaches_accepts e p nothing h = absurd h

-- an effect that gives and concludes nothing, in a book with as many entries
pub no_fresh : (d : Effect) (ds : Effects) (v : Vocabulary) (es es' : List Entry) → length es' ≡ length es →
    ((e p : ℕ) → Gives e p d → ⊥) → ((e : ℕ) (cites : List ℕ) → Accepts e cites d → ⊥) → Fresh d ds v es es'
no_fresh d ds v es es' same g a = record {
  gives_new = λ e p h. absurd (g e p h);
  given_new = λ e l lt o. absurd (omega arith);
  accepts_new = λ e cites h. absurd (a e cites h);
  accepted_new = λ e l lt o. absurd (omega arith);
  reaches_new = λ e p h. let (cites, u) = reaches_accepts e p d h in absurd (a e cites u);
  reached_new = λ e l lt o. absurd (omega arith);
  own_new = λ e l lt o r. absurd (omega arith);
  known_new = λ e l lt. absurd (omega arith);
  untainted_new = λ e r cites h. absurd (a e cites h);
}
