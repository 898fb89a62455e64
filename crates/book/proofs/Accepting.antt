-- Conclude keeps what agrees between the effects and the book.
use Rattle.std.proofs.Common.{◌≡◌, ℕ, ◌-◌, ◌<◌, ◌≤◌, Bool, true, false, not, ◌&&◌, ◌||◌, T, eqb, ltb, leb, ◌⊎◌, List, [], ◌∷◌, ◌++◌, map, length, get_or, set, Some, None, Ok, Err, Option, Result, sym, refl, ap, ◌∙◌, subst, inl, inr, ⊎_elim, arith, eqb→eq, ltb→lt, T_not, All, position, zero-add}
use Rattle.std.proofs.lemmas.Bool.{cases_lt}
use Rattle.std.specs.List.{range_with_len, enumerate_from}
use Rattle.std.proofs.lemmas.List.Elements.{All-head, All-tail, All-from_get_or}
use Rattle.std.proofs.lemmas.List.Folds.{list_any_at}
use Rattle.std.proofs.Math.Facts.{T_not-not}
use Rattle.std.proofs.lemmas.List.{get_or_past}
use Rattle.std.proofs.lemmas.List.FromFn.{get_or-map-range_with_len, length-map-range_with_len, length-enumerate_from, get_or-enumerate_from}
use Rattle.logic.specs.Formulas.{In}
use Rattle.logic.specs.Meanings.{Value, Structure, Interpretation, true_in, refuted}
use Rattle.logic.specs.Meanings.{Sequent as Seq}
use Rattle.calculus.specs.declared.step.Step.{Step}
use Rattle.calculus.specs.declared.refusal.Refusal.{Refusal as DerivationRefusal}
use Rattle.calculus.specs.declared.refusal.Fault.TheVariants.{NotASequent}
use Rattle.calculus.specs.Theories.{Meaning, Sound}
use Rattle.calculus.specs.Derivations.{root, RightDerivation}
use Rattle.calculus.proofs.Derived.{root_valid}
use Rattle.states.specs.declared.entry.Entry.{Entry}
use Rattle.states.specs.declared.entry.Origin.TheVariants.{Given, Concluded}
use Rattle.states.specs.declared.entry.State.{State}
use Rattle.states.specs.declared.refusal.Refusal.{Refusal}
use Rattle.states.specs.declared.refusal.Refusal.TheVariants.{UnknownCitation, CitationNotStanding, CitationHeld}
use Rattle.states.specs.States.{stands, is_held}
use Rattle.entries.specs.Scans.{mem, subset}
use Rattle.entries.specs.Lists as entries
use Rattle.states.specs.Support.{in_support}
use Rattle.entries.specs.Lists.{Change, no_entry, at}
use Rattle.entries.specs.Concluding as concluding
use Rattle.entries.specs.Concluding.{disorder, does_not_stand, support_held, predicate_of, same_set, joined, row, conclusion, unless}
use Rattle.entries.proofs.Citing.{all_below}
use Rattle.entries.proofs.Placing.{position-None}
use Rattle.book.specs.Books.{Model, with_entries}
use Rattle.book.specs.Concluding.{Judges, conclude}
use Rattle.book.specs.Runs.{concludes}
use Rattle.book.proofs.Effects.{concluded_by, effect, Effects, IsWithdrawn, IsHeld}
use Rattle.book.proofs.Tests.{and_both, and_left, and_right, or_left, or_right}
use Rattle.book.proofs.Changes.{TIs}
use Rattle.book.proofs.Static.{no_growth, Fresh, static_step}
use Rattle.book.proofs.EntryStates.{at_new, longer, kept_append, states_append}
use Rattle.book.proofs.Reading.{Inv, unwithdrawn}
use Rattle.book.proofs.Steps.{either_way, idle, new_place}

-- a row of marks
in_row : (set : ℕ → Bool) (r : ℕ) → T (get_or (row set) r false) → (r < 512) × T (set r)
unfolding row
in_row set r t = ⊎_elim
    (λ (l : r < 512). (l, subst T (get_or-map-range_with_len set 0 512 r r false l (omega arith)) t))
    (λ (l : 512 ≤ r). absurd (subst T (get_or_past (map set (range_with_len 0 512)) r false (subst (λ (n : ℕ). n ≤ r) (sym (length-map-range_with_len set 0 512)) l)) t))
    (cases_lt r 512)

to_row : (set : ℕ → Bool) (r : ℕ) → r < 512 → T (set r) → T (get_or (row set) r false)
unfolding row
to_row set r l t = subst T (sym (get_or-map-range_with_len set 0 512 r r false l (omega arith))) t

-- the support of a conclusion
joined_from : (es : List Entry) (cites : List ℕ) (r : ℕ) → T (joined es cites r) → (c : ℕ) × In c cites × T (in_support r (at es c))
joined_from es [] r t = absurd t
joined_from es (c ∷ cs) r t = go (in_support r (at es c)) (λ u. u) (joined_from es cs r) t
  where
    go : (b : Bool) → (T b → T (in_support r (at es c))) → (T (joined es cs r) → (k : ℕ) × In k cs × T (in_support r (at es k))) →
        T (b || joined es cs r) → (k : ℕ) × In k (c ∷ cs) × T (in_support r (at es k))
    go true u f t = (c, inl refl, u tt)
    go false u f t = let (k, i, h) = f t in (k, inr i, h)

joined_has : (es : List Entry) (cites : List ℕ) (r c : ℕ) → In c cites → T (in_support r (at es c)) → T (joined es cites r)
joined_has es [] r c i t = absurd i
joined_has es (k ∷ cs) r c (inl e) t = or_left (in_support r (at es k)) (joined es cs r) (subst (λ n. T (in_support r (at es n))) e t)
joined_has es (k ∷ cs) r c (inr i) t = or_right (in_support r (at es k)) (joined es cs r) (joined_has es cs r c i t)

-- the checks over the citations
of_all : (P : ℕ → Type 0) (ns : List ℕ) → All P ns → (n : ℕ) → In n ns → P n
of_all P [] a n i = absurd i
of_all P (k ∷ ns) a n (inl e) = subst P (sym e) (All-head P k ns a)
of_all P (k ∷ ns) a n (inr i) = of_all P ns (All-tail P k ns a) n i

passing : (test : ℕ → Bool) (cites : List ℕ) → position test cites ≡ None → (c : ℕ) → In c cites → T (not (test c))
passing test cites e = of_all (λ c. T (not (test c))) cites
    (All-from_get_or (λ c. T (not (test c))) cites 0 (λ k l. subst (λ b. T (not b)) (sym (position-None test cites k 0 e l)) tt))

holds_found : (es : List Entry) (c r : ℕ) → r < length es → T (in_support r (at es c)) → T (is_held (at es r).state) → T (support_held es c)
holds_found es c r l t h =
    let test : ℕ × Entry → Bool = λ (k, x). in_support k (at es c) && is_held x.state in
    let here : test (r, at es r) ≡ true = TIs _ (and_both (in_support r (at es c)) (is_held (at es r).state) t h) in
    subst T (sym (list_any_at test (enumerate_from 0 es) r (0, no_entry) (simp length-enumerate_from l) (rw (get_or-enumerate_from 0 es r (0, no_entry) l, zero-add) here))) tt

from_map : (f : ℕ → ℕ) (cites : List ℕ) (n : ℕ) → In n (map f cites) → (c : ℕ) × In c cites × (n ≡ f c)
from_map f [] n i = absurd i
from_map f (c ∷ cs) n (inl e) = (c, inl refl, e)
from_map f (c ∷ cs) n (inr i) = let (k, j, e) = from_map f cs n i in (k, inr j, e)

among : (n : ℕ) (ms : List ℕ) → T (mem n ms) → In n ms
among n [] t = absurd t
among n (m ∷ ms) t = go (eqb m n) (λ u. sym (eqb→eq m n u)) (among n ms) t
  where
    go : (b : Bool) → (T b → n ≡ m) → (T (mem n ms) → In n ms) → T (b || mem n ms) → (n ≡ m) ⊎ In n ms
    go true e f t = inl (e tt)
    go false e f t = inr (f t)

subset_by : (ns ms : List ℕ) → T (subset ns ms) → (n : ℕ) → In n ns → In n ms
subset_by [] ms t n i = absurd i
subset_by (k ∷ ns) ms t n (inl e) = subst (λ (j : ℕ). In j ms) (sym e) (among k ms (and_left (mem k ms) (subset ns ms) t))
subset_by (k ∷ ns) ms t n (inr i) = subset_by ns ms (and_right (mem k ms) (subset ns ms) t) n i

-- a goal whose hypotheses are all true
goal_true : (p : ℕ → Bool) (g : Bool) (ns : List ℕ) → ((n : ℕ) → In n ns → T (p n)) → T (g || refuted p ns) → T g
goal_true p true ns h t = tt
goal_true p false ns h t = absurd (unrefuted ns h t)
  where
    unrefuted : (ns : List ℕ) → ((n : ℕ) → In n ns → T (p n)) → T (refuted p ns) → ⊥
    unrefuted [] h t = t
    unrefuted (n ∷ ns) h t = go (p n) (h n (inl refl)) (unrefuted ns λ k i. h k (inr i)) t
      where
        go : (b : Bool) → T b → (T (refuted p ns) → ⊥) → T (not b || refuted p ns) → ⊥
        go true u f t = f t
        go false u f t = u

module _ (ds : Effects) (b : Model) (inv : Inv ds b) (cites : List ℕ) (goal : ℕ) (room : length b.entries < 512)
    (known : (c : ℕ) → In c cites → c < length b.entries)
    (standing-all : (c : ℕ) → In c cites → T (stands (at b.entries c).state))
    (free_all : (c : ℕ) → In c cites → T (not (support_held b.entries c)))
    (goal-known : goal < length b.vocabulary.formulas)
    (entailed : (w : Structure) (f : ℕ → Value) → Interpretation b.vocabulary w f →
    ((c : ℕ) → In c cites → T (true_in b.vocabulary w f (at b.entries c).predicate)) → T (true_in b.vocabulary w f goal)) where
  abbrev x : Entry
  x = conclusion b.entries cites goal

  from : (r : ℕ) → T (in_support r x) → (c : ℕ) × In c cites × T (in_support r (at b.entries c))
  from r t = joined_from b.entries cites r (in_row (joined b.entries cites) r t).1

  has : (r c : ℕ) → In c cites → T (in_support r (at b.entries c)) → T (in_support r x)
  has r c i t = let (support, lr, o) = inv.static.rules c (known c i) r t in
      to_row (joined b.entries cites) r (omega arith) (joined_has b.entries cites r c i t)

  untainted : (r : ℕ) → IsHeld ds r → T (in_support r x) → ⊥
  untainted r h t = let es = b.entries in let (c, i, u) = from r t in let (l, s) = inv.states.held_in r h in
      T_not _ (free_all c i) (holds_found es c r l u (subst (λ (z : State). T (is_held z)) (sym s) tt))

  none_withdrawn : (r : ℕ) → T (in_support r x) → IsWithdrawn ds r → ⊥
  none_withdrawn r t w = let es = b.entries in let (c, i, u) = from r t in
      unwithdrawn ds b.vocabulary es inv.static inv.states c (known c i) (standing-all c i) r u w

  not_given : Concluded ≡ Given → ⊥
  not_given e = cc

  fresh_concluded : Fresh (concluded_by (length b.entries) cites goal) ds b.vocabulary b.entries (b.entries ++ x ∷ [])
  fresh_concluded = let es = b.entries in let long = longer es x in record {
    gives_new = λ e q h. absurd h;
    given_new = λ e l lt o. let (same, is) = new_place es x e l lt in absurd (not_given (ap (λ (y : Entry). y.origin) (sym is) ∙ o));
    accepts_new = λ e cs (n, s). (
      omega arith,
      subst (λ k. (at (es ++ x ∷ []) k).origin ≡ Concluded) n (ap (λ (y : Entry). y.origin) (at_new es x)),
      λ c i. let j : In c cites = subst (In c) (sym s) i in (
        known c j,
        λ r t.
            subst (λ k. T (in_support r (at (es ++ x ∷ []) k))) n (subst (λ (y : Entry). T (in_support r y)) (sym (at_new es x)) (has r c j t)),
      ),
    );
    accepted_new = λ e l lt o. let (same, is) = new_place es x e l lt in (
      cites,
      (same, refl),
      (λ r t. from r (subst (λ (y : Entry). T (in_support r y)) is t)),
      λ w f fits hyp. subst (λ (y : Entry). T (true_in b.vocabulary w f y.predicate)) (sym is) (entailed w f fits hyp),
    );
    reaches_new = λ e q (n, s). (
      omega arith,
      subst (λ k. (at (es ++ x ∷ []) k).origin ≡ Concluded) n (ap (λ (y : Entry). y.origin) (at_new es x)),
      subst (λ k. (at (es ++ x ∷ []) k).predicate ≡ q) n (ap (λ (y : Entry). y.predicate) (at_new es x) ∙ s),
    );
    reached_new = λ e l lt o. let (same, is) = new_place es x e l lt in (same, ap (λ (y : Entry). y.predicate) (sym is));
    own_new = λ e l lt o r. let (same, is) = new_place es x e l lt in absurd (not_given (ap (λ (y : Entry). y.origin) (sym is) ∙ o));
    known_new = λ e l lt. let (same, is) = new_place es x e l lt in subst (λ (y : Entry). y.predicate < length b.vocabulary.formulas) (sym is) goal-known;
    untainted_new = λ e r cs (n, s) h t. untainted r h (subst (λ (y : Entry). T (in_support r y)) (at_new es x) (subst (λ k. T (in_support r (at (es ++ x ∷ []) k))) (sym n) t));
  }

  pub after_conclude : Inv (concluded_by (length b.entries) cites goal ∷ ds) (with_entries b (b.entries ++ x ∷ []))
  after_conclude = let long = longer b.entries x in record {
    told = inv.told;
    formed = inv.formed;
    few = omega arith;
    static = static_step (concluded_by (length b.entries) cites goal) ds b.vocabulary b.vocabulary b.entries (b.entries ++ x ∷ []) (no_growth b.vocabulary) (kept_append b.entries x) fresh_concluded inv.static;
    states = states_append (concluded_by (length b.entries) cites goal) ds b.entries (λ r. (λ h. h, λ h. h)) inv.states x refl (λ o r t. none_withdrawn r t);
  }

unless_either : (Q : Change ℕ → Type 0) (o : Option ℕ) (why : ℕ → Refusal) (es : List Entry) (rest : Change ℕ) →
    ((place : ℕ) → Q (entries.refuse (why place) es)) → (o ≡ None → Q rest) → Q (unless o why es rest)
unless_either Q None why es rest f g = g refl
unless_either Q (Some place) why es rest f g = f place

module _ (m : Meaning) (sound : Sound m) (ds : Effects) (b : Model) (inv : Inv ds b) (xs : List Step) (hs cites : List ℕ) where
  abbrev Q : Change ℕ → Type 0
  Q o = Inv (effect (concludes xs hs cites o.answer) ∷ ds) (with_entries b o.after)

  step_cite : RightDerivation m b.vocabulary xs hs → Q (concluding.cite b.entries (root xs hs).goal (root xs hs).hypotheses cites)
  step_cite (sized, right) =
      let es = b.entries in
      let v = b.vocabulary in
      let hyps = (root xs hs).hypotheses in
      let goal = (root xs hs).goal in
      unless_either Q (disorder (length es) 0 0 cites) UnknownCitation es _ (λ place. idle ds b inv) λ first.
      unless_either Q (position (does_not_stand es) cites) CitationNotStanding es _ (λ place. idle ds b inv) λ second.
      unless_either Q (position (support_held es) cites) CitationHeld es _ (λ place. idle ds b inv) λ third.
      either_way Q (same_set (map (predicate_of es) cites) hyps) _ _
      (λ t. either_way Q (ltb (length es) 512) _ _
      (λ u. after_conclude ds b inv cites goal (ltb→lt _ _ u)
      (of_all (λ c. c < length es) cites (all_below (length es) 0 0 cites first))
      (λ c i. T_not-not (stands (at es c).state) (passing (does_not_stand es) cites second c i))
      (passing (support_held es) cites third)
      (right (length xs - 1) (omega (arith, sized.0)) NotASequent).2.0
      (λ w f fits hyp. goal_true (true_in v w f) (true_in v w f goal) hyps
      (λ n i. let (c, j, e) = from_map (predicate_of es) cites n
      (subset_by hyps (map (predicate_of es) cites) (and_right (subset (map (predicate_of es) cites) hyps) (subset hyps (map (predicate_of es) cites)) t) n i) in
      subst (λ (k : ℕ). T (true_in v w f k)) (sym e) (hyp c j))
      (root_valid m sound v inv.formed xs hs (length xs) right sized.0 w f fits)))
      (λ u. idle ds b inv))
      (λ t. idle ds b inv)

  pub step_conclude : (verdict : Result Seq DerivationRefusal) → Judges m b.vocabulary xs hs cites verdict →
      Inv (effect (concludes xs hs cites (conclude b verdict cites).answer) ∷ ds) (conclude b verdict cites).after
  step_conclude (Ok s) (few, right, is) =
      subst (λ (k : Seq). Q (concluding.conclude b.entries k.goal k.hypotheses cites)) (sym is)
      (either_way Q (leb (length cites) 16) _ _ (λ t. step_cite right) (λ t. idle ds b inv))
  step_conclude (Err e) judged = idle ds b inv
