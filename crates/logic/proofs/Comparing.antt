-- Whether some H fits is decided by comparing sets, and a side condition on H needs asking only of the least H.
use Rattle.logic.specs.declared.rule.Rule.TheVariants.{Mon}
use Rattle.std.proofs.Common.{◌≡◌, ℕ, Bool, true, false, cond, not, ◌||◌, T, eqb, ◌⊎◌, List, [], ◌∷◌, ◌++◌, sym, refl, ◌∙◌, subst, inl, inr, ⊎_elim, eqb→eq, T_not}
use lib.Dec.{eqb_refl}
use Rattle.std.specs.List.{AllZip}
use Rattle.std.proofs.ByRecursion.{All-weaker}
use Rattle.logic.specs.Formulas.{In, Vocabulary}
use Rattle.logic.specs.Meanings.{Sequent}
use Rattle.logic.specs.Rules.{◌⊢◌, Form, mon, MonBySubset, Absent, Made, Subset, mem, subset, minus, least, fits, InstanceBySets}
use Rattle.logic.proofs.Typing.{in_left, in_right}
use Rattle.logic.proofs.Soundness.{true_at, true_from, contrary}
use Rattle.logic.proofs.Tests.{and_both, and_left, and_right}

pub mem_in : (n : ℕ) (ms : List ℕ) → In n ms ⊎ T (not (mem n ms))
mem_in n [] = inr tt
mem_in n (m ∷ ms) = go (eqb n m) (eqb→eq n m) (mem_in n ms)
  where
    go : (b : Bool) → (T b → n ≡ m) → In n ms ⊎ T (not (mem n ms)) → In n (m ∷ ms) ⊎ T (not (b || mem n ms))
    go true e i = inl (inl (e tt))
    go false e (inl i) = inl (inr i)
    go false e (inr t) = inr t

pub not_in : (n : ℕ) (ms : List ℕ) → T (not (mem n ms)) → In n ms → ⊥
not_in n [] t i = i
not_in n (m ∷ ms) t i = go (eqb n m) (λ e. subst (λ k. T (eqb n k)) e (eqb_refl n)) (not_in n ms) t i
  where
    go : (b : Bool) → (n ≡ m → T b) → (T (not (mem n ms)) → In n ms → ⊥) → T (not (b || mem n ms)) → In n (m ∷ ms) → ⊥
    go true e r t i = t
    go false e r t (inl i) = e i
    go false e r t (inr i) = r t i

pub mem_of : (n : ℕ) (ms : List ℕ) → In n ms → T (mem n ms)
mem_of n ms i = contrary false (mem n ms) (λ t. not_in n ms t i) tt

pub subset_of : (ns ms : List ℕ) → Subset ns ms → T (subset ns ms)
subset_of [] ms h = tt
subset_of (n ∷ ns) ms h = and_both _ _ (mem_of n ms (h n (inl refl))) (subset_of ns ms λ k i. h k (inr i))

pub subset_by : (ns ms : List ℕ) → T (subset ns ms) → Subset ns ms
subset_by [] ms t n i = absurd i
subset_by (m ∷ ns) ms t n (inl e) = ⊎_elim (λ i. i) (λ s. absurd (T_not _ s (rw e (and_left _ _ t)))) (mem_in n ms)
subset_by (m ∷ ns) ms t n (inr i) = subset_by ns ms (and_right _ _ t) n i

pub minus_from : (k : ℕ) (ns ms : List ℕ) → In k (minus ns ms) → In k ns × T (not (mem k ms))
minus_from k [] ms i = absurd i
minus_from k (n ∷ ns) ms i = go (mem n ms) (λ t. t) (minus_from k ns ms) i
  where
    go : (b : Bool) → (T (not b) → T (not (mem n ms))) → (In k (minus ns ms) → In k ns × T (not (mem k ms))) →
        In k (cond b (minus ns ms) (n ∷ minus ns ms)) → In k (n ∷ ns) × T (not (mem k ms))
    go true h r i = let d = r i in (inr d.0, d.1)
    go false h r (inl e) = (inl e, rw e (h tt))
    go false h r (inr i) = let d = r i in (inr d.0, d.1)

pub minus_to : (k : ℕ) (ns ms : List ℕ) → In k ns → T (not (mem k ms)) → In k (minus ns ms)
minus_to k [] ms i t = i
minus_to k (n ∷ ns) ms i t = go (mem n ms) (λ t. t) (λ i. minus_to k ns ms i t) i
  where
    go : (b : Bool) → (T (not (mem n ms)) → T (not b)) → (In k ns → In k (minus ns ms)) → In k (n ∷ ns) → In k (cond b (minus ns ms) (n ∷ minus ns ms))
    go true h r (inl e) = absurd (h (rw e at t))
    go true h r (inr i) = r i
    go false h r (inl e) = inl e
    go false h r (inr i) = inr (r i)

pub in_either : (k : ℕ) (ns ms : List ℕ) → In k (ns ++ ms) → In k ns ⊎ In k ms
in_either k [] ms i = inr i
in_either k (n ∷ ns) ms (inl e) = inl (inl e)
in_either k (n ∷ ns) ms (inr i) = ⊎_elim (λ j. inl (inr j)) inr (in_either k ns ms i)

each_weaker : (R S : Sequent → Sequent → Type 0) → ((p s : Sequent) → R p s → S p s) → (ps ss : List Sequent) → AllZip R ps ss → AllZip S ps ss
each_weaker R S f [] [] h = tt
each_weaker R S f [] (s ∷ ss) h = h
each_weaker R S f (p ∷ ps) [] h = h
each_weaker R S f (p ∷ ps) (s ∷ ss) h = (f p s h.0, each_weaker R S f ps ss h.1)

abbrev pub Compared : List ℕ → List Sequent → List Sequent → Type 0
Compared L = AllZip (λ p s. (s.goal ≡ p.goal) × Subset p.hypotheses s.hypotheses × Subset L s.hypotheses)

pub fits_of : (L : List ℕ) (ps ss : List Sequent) → Compared L ps ss → T (fits L ps ss)
fits_of L [] [] h = tt
fits_of L [] (s ∷ ss) h = h
fits_of L (p ∷ ps) [] h = h
fits_of L (p ∷ ps) (s ∷ ss) ((e, f, g), h) =
    and_both _ _ (and_both _ _ (subst (λ k. T (eqb s.goal k)) e (eqb_refl s.goal)) (and_both _ _ (subset_of _ _ f) (subset_of _ _ g))) (fits_of L ps ss h)

pub fits_by : (L : List ℕ) (ps ss : List Sequent) → T (fits L ps ss) → Compared L ps ss
fits_by L [] [] t = tt
fits_by L [] (s ∷ ss) t = t
fits_by L (p ∷ ps) [] t = t
fits_by L (p ∷ ps) (s ∷ ss) t = let h = and_left _ (fits L ps ss) t in let k = and_right (eqb s.goal p.goal) _ h in
    ((eqb→eq _ _ (and_left _ _ h), subset_by _ _ (and_left _ _ k), subset_by _ _ (and_right _ _ k)), fits_by L ps ss (and_right _ _ t))

-- a fitting H has what any sequent has beyond its part
least_in : (H : List ℕ) (ps ss : List Sequent) → AllZip (Made H) ps ss → Subset (least ps ss) H
least_in H [] ss h n i = absurd i
least_in H (p ∷ ps) [] h n i = absurd i
least_in H (p ∷ ps) (s ∷ ss) h n i = ⊎_elim
    (λ j. let d = minus_from n s.hypotheses p.hypotheses j in
    ⊎_elim (λ r. r) (λ q. absurd (not_in n p.hypotheses d.1 q)) ((h.0.1 n).0 d.0))
    (least_in H ps ss h.1 n) (in_either n (minus s.hypotheses p.hypotheses) (least ps ss) i)

compared : (H L : List ℕ) (ps ss : List Sequent) → Subset L H → AllZip (Made H) ps ss → Compared L ps ss
compared H L ps ss sub = each_weaker _ _ (λ p s m. (m.0, λ n i. (m.1 n).1 (inr i), λ n i. (m.1 n).1 (inl (sub n i)))) ps ss

fitting : (L : List ℕ) (ps ss : List Sequent) → Subset (least ps ss) L → Compared L ps ss → AllZip (Made L) ps ss
fitting L [] [] sub h = tt
fitting L [] (s ∷ ss) sub h = h
fitting L (p ∷ ps) [] sub h = h
fitting L (p ∷ ps) (s ∷ ss) sub (d, h) = (
  (
    d.0,
    λ n. (
      λ i. ⊎_elim inr (λ t. inl (sub n (in_left n _ (least ps ss) (minus_to n s.hypotheses p.hypotheses i t)))) (mem_in n p.hypotheses),
      ⊎_elim (d.2 n) (d.1 n),
    ),
  ),
  fitting L ps ss (λ n i. sub n (in_right n (minus s.hypotheses p.hypotheses) _ i)) h,
)

absent_least : (v : Vocabulary) (x : ℕ) (H L : List ℕ) → Subset L H → Absent v x H → Absent v x L
absent_least v x H L sub h = true_from _ L λ n i. true_at _ H n h (sub n i)

pub instance_by_sets : InstanceBySets
instance_by_sets v rule a b c premises s = (
  λ (H, fresh, above, below, form, absent, made).
      let sub = least_in H (below ∷ above) (s ∷ premises) made in
      (fresh, above, below, form, All-weaker _ _ (λ x. absent_least v x H _ sub) fresh absent, fits_of _ (below ∷ above) (s ∷ premises) (compared H _ (below ∷ above) (s ∷ premises) sub made)),
  λ (fresh, above, below, form, absent, same).
      (least (below ∷ above) (s ∷ premises), fresh, above, below, form, absent, fitting _ (below ∷ above) (s ∷ premises) (λ n i. i) (fits_by _ (below ∷ above) (s ∷ premises) same)),
)

mon_subset : {v : Vocabulary} {a b c : ℕ} {fresh : List ℕ} {above : List Sequent} {below : Sequent} (H : List ℕ) (p s : Sequent) → Form v a b c Mon fresh above below →
    AllZip (Made H) (below ∷ above) (s ∷ p ∷ []) → (s.goal ≡ p.goal) × Subset p.hypotheses s.hypotheses
mon_subset H p s mon (i, (j, _)) = (i.0 ∙ sym j.0, λ n h. (i.1 n).1 (inl (⊎_elim (λ k. k) (λ k. absurd k) ((j.1 n).0 h))))

pub mon_by_subset : MonBySubset
mon_by_subset v a b c p s = (
  λ (H, fresh, above, below, form, absent, made). mon_subset H p s form made,
  λ (e, sub). (
    p.hypotheses,
    [],
    ([] ⊢ p.goal) ∷ [],
    s.hypotheses ⊢ p.goal,
    mon,
    tt,
    ((e, λ n. (inr, ⊎_elim (sub n) (λ i. i))), ((refl, λ n. (inl, ⊎_elim (λ i. i) (λ i. absurd i))), tt)),
  ),
)
