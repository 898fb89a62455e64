-- Freeness and substitution, from what is found at the operands.
use Rattle.std.proofs.Common.{◌≡◌, ℕ, Bool, true, false, cond, not, ◌&&◌, ◌||◌, T, eqb, ◌↔◌, Some, sym, refl, ap, ◌∙◌, subst, ap₂, inl, inr, ⊎_elim, eqb→eq, ltb→lt, lt→ltb, T_not, arith}
use lib.Dec.{eqb_refl}
use Rattle.std.specs.Bool.{then_some}
use Rattle.logic.specs.Formulas.{and, or, implies, iff, forall, exists, Shape, variable, pair, falsity, truth, negation, join, bind, equal, member, through, Vocabulary, node, free, free_layer, Substituted, SubstitutedLayer, IsReplaced, variable_type, Falling, WellFormed, IsSubstitution}
use Rattle.logic.specs.Meanings.{Valued}
use Rattle.logic.proofs.Typing.{values_typed}
use Rattle.logic.specs.Deciding.{is_expression, knows_formula, type_of}
use Rattle.logic.proofs.Coincidence.{free_is, substituted_is}
use Rattle.logic.proofs.Deciding.{types_decided}
use Rattle.logic.proofs.Tests.{and_both, and_left, and_right, is_so}
use Rattle.formulas.specs.declared.kinds.Kind.{Kind}
use Rattle.formulas.specs.declared.kinds.Kind.TheVariants.{Pair, Not, And, Or, Implies, Iff, ForAll, Exists, Equal, Member}
use Rattle.formulas.specs.declared.records.Record.{Record}
use Rattle.formulas.specs.declared.kinds.Role.{Role}
use Rattle.formulas.specs.declared.kinds.Role.TheVariants.{Nothing, AVariable, Expression, Predicate, ASetName}
use Rattle.formulas.specs.Kinds.{kind_number, first_role, second_role, is_formula}
use Rattle.std.proofs.lemmas.Bool.{true≢false, false≢true}
use Rattle.formulas.specs.Records.{shape, record_of, entry}
use Rattle.vocabulary.specs.Calls.{knows_variable}
use Rattle.questions.specs.Leaves.{free_from, substituted_under, Replaced}
use Rattle.vocabulary.specs.Leaves.{part}
use Rattle.formulas.proofs.Shapes.{of_kind}
use Rattle.vocabulary.proofs.Layers.{firstly, secondly}

or_false : (b : Bool) → (b || false) ≡ b
or_false true = refl
or_false false = refl

free_parts : (x : ℕ) (f : ℕ → Bool) (s : Shape ℕ) → free_from x (record_of s) (firstly false f (record_of s)) (secondly false f (record_of s)) ≡ free_layer x (through f s)
free_parts x f (variable y) = refl
free_parts x f (pair a b) = refl
free_parts x f falsity = refl
free_parts x f truth = refl
free_parts x f (negation a) = or_false (f a)
free_parts x f (join and a b) = refl
free_parts x f (join or a b) = refl
free_parts x f (join implies a b) = refl
free_parts x f (join iff a b) = refl
free_parts x f (bind forall y b) = refl
free_parts x f (bind exists y b) = refl
free_parts x f (equal a b) = refl
free_parts x f (member a s) = or_false (f a)

pub part_formula : {A : Type 0} (d : A) (f : ℕ → A) (s : Role) (n : ℕ) → is_formula s ≡ true → f n ≡ part d f s n
part_formula d f Nothing n h = absurd (false≢true h)
part_formula d f AVariable n h = absurd (false≢true h)
part_formula d f Expression n h = refl
part_formula d f Predicate n h = refl
part_formula d f ASetName n h = absurd (false≢true h)

pub part_other : {A : Type 0} (d : A) (f : ℕ → A) (s : Role) (n : ℕ) → is_formula s ≡ false → d ≡ part d f s n
part_other d f Nothing n h = refl
part_other d f AVariable n h = refl
part_other d f Expression n h = absurd (true≢false h)
part_other d f Predicate n h = absurd (true≢false h)
part_other d f ASetName n h = refl

pub replaced_formula : (f : ℕ → ℕ → Type 0) (s : Role) (p q : ℕ) (b c : Bool) → is_formula s ≡ true → b ≡ c → T c ↔ f p q → T b ↔ Replaced f s p q
replaced_formula f Nothing p q b c h e i = absurd (false≢true h)
replaced_formula f AVariable p q b c h e i = absurd (false≢true h)
replaced_formula f Expression p q b c h e i = subst (λ d. T d ↔ f p q) (sym e) i
replaced_formula f Predicate p q b c h e i = subst (λ d. T d ↔ f p q) (sym e) i
replaced_formula f ASetName p q b c h e i = absurd (false≢true h)

equals : (p q : ℕ) (b : Bool) → b ≡ eqb q p → T b ↔ (q ≡ p)
equals p q b e = (λ t. eqb→eq q p (subst T e t), λ i. subst T (sym e) (subst (λ m. T (eqb m p)) (sym i) (eqb_refl p)))

pub replaced_other : (f : ℕ → ℕ → Type 0) (s : Role) (p q : ℕ) (b : Bool) → is_formula s ≡ false → b ≡ eqb q p → T b ↔ Replaced f s p q
replaced_other f Nothing p q b h e = equals p q b e
replaced_other f AVariable p q b h e = equals p q b e
replaced_other f Expression p q b h e = absurd (true≢false h)
replaced_other f Predicate p q b h e = absurd (true≢false h)
replaced_other f ASetName p q b h e = equals p q b e

pub absent : (b : Bool) → b ≡ false → T (not b)
absent b e = subst (λ c. T (not c)) (sym e) tt

pub present : (b : Bool) → b ≡ true → T b
present b e = is_so b e

pub free_found : (v : Vocabulary) → Falling v → (x n : ℕ) (r : Record) (first second answer : Bool) → r ≡ record_of (node v n)
    → first ≡ firstly false (free v x) r → second ≡ secondly false (free v x) r
    → answer ≡ free_from x r first second → answer ≡ free v x n
free_found v falling x n r first second answer e p q a =
    a ∙ (ap₂ (free_from x r) p q
    ∙ (ap (λ (s : Record). free_from x s (firstly false (free v x) s) (secondly false (free v x) s)) e
    ∙ (free_parts x (free v x) (node v n) ∙ sym (free_is v falling x n))))

-- a test for a kind and both operands, and what it says of the node
module _ (m : Shape ℕ) (k : Kind) (t : Shape ℕ) (z : m ≡ t) (P Q : ℕ → Type 0) (first second : Bool)
    (f : T first ↔ P (record_of t).a) (g : T second ↔ Q (record_of t).b) where
  ahead : T (eqb (kind_number (record_of t).kind) (kind_number k) && (first && second)) →
      (m ≡ shape k (record_of t).a (record_of t).b) × P (record_of t).a × Q (record_of t).b
  ahead h =
      let o = and_right (eqb (kind_number (record_of t).kind) (kind_number k)) (first && second) h in (
        z ∙ of_kind t k (eqb→eq _ _ (and_left (eqb (kind_number (record_of t).kind) (kind_number k)) (first && second) h)),
        f.0 (and_left first second o),
        g.0 (and_right first second o),
      )

  behind : (c d : ℕ) → record_of (shape k c d) ≡ entry k c d → m ≡ shape k c d → P c → Q d → T (eqb (kind_number (record_of t).kind) (kind_number k) && (first && second))
  behind c d e i p q =
      let w : entry k c d ≡ record_of t = sym e ∙ ap record_of (sym i ∙ z) in
      and_both (eqb (kind_number (record_of t).kind) (kind_number k)) (first && second)
      (subst (λ (r : Record). T (eqb (kind_number r.kind) (kind_number k))) w (eqb_refl (kind_number k)))
      (and_both first second (f.1 (subst (λ (r : Record). P r.a) w p)) (g.1 (subst (λ (r : Record). Q r.b) w q)))

uncaught : (c b : Bool) → T (cond c false b) → T (not c) × T b
uncaught true b t = absurd t
uncaught false b t = (tt, t)

caught : (c b : Bool) → T (not c) → T b → T (cond c false b)
caught true b s t = absurd s
caught false b s t = t

module _ (v : Vocabulary) (x e : ℕ) where
  substituted_shape : (q : ℕ) (s t : Shape ℕ) → node v q ≡ t → T (free_layer x (through (free v x) s)) → (first second : Bool)
      → (T first ↔ Replaced (Substituted v x e) (first_role (record_of s).kind) (record_of s).a (record_of t).a)
      → (T second ↔ Replaced (Substituted v x e) (second_role (record_of s).kind) (record_of s).b (record_of t).b)
      → T (substituted_under v e (record_of s) (record_of t) q first second) ↔ IsReplaced v e (through (Substituted v x e) s) q
  substituted_shape q (variable y) t z fr first second f g = (eqb→eq q e, λ h. subst (λ n. T (eqb n e)) (sym h) (eqb_refl e))
  substituted_shape q (pair a b) t z fr first second f g = (
    λ h. let u = ahead (node v q) Pair t z (Substituted v x e a) (Substituted v x e b) first second f g h in ((record_of t).a, (record_of t).b, u.0, u.1, u.2),
    λ (c, d, i, j, k). behind (node v q) Pair t z (Substituted v x e a) (Substituted v x e b) first second f g c d refl i j k,
  )
  substituted_shape q falsity t z fr first second f g = absurd fr
  substituted_shape q truth t z fr first second f g = absurd fr
  substituted_shape q (negation a) t z fr first second f g = (
    λ h. let u = ahead (node v q) Not t z (Substituted v x e a) (λ n. n ≡ 0) first second f g h in ((record_of t).a, u.0, u.1),
    λ (c, i, j). behind (node v q) Not t z (Substituted v x e a) (λ n. n ≡ 0) first second f g c 0 refl i j refl,
  )
  substituted_shape q (join and a b) t z fr first second f g = (
    λ h. let u = ahead (node v q) And t z (Substituted v x e a) (Substituted v x e b) first second f g h in ((record_of t).a, (record_of t).b, u.0, u.1, u.2),
    λ (c, d, i, j, k). behind (node v q) And t z (Substituted v x e a) (Substituted v x e b) first second f g c d refl i j k,
  )
  substituted_shape q (join or a b) t z fr first second f g = (
    λ h. let u = ahead (node v q) Or t z (Substituted v x e a) (Substituted v x e b) first second f g h in ((record_of t).a, (record_of t).b, u.0, u.1, u.2),
    λ (c, d, i, j, k). behind (node v q) Or t z (Substituted v x e a) (Substituted v x e b) first second f g c d refl i j k,
  )
  substituted_shape q (join implies a b) t z fr first second f g = (
    λ h. let u = ahead (node v q) Implies t z (Substituted v x e a) (Substituted v x e b) first second f g h in ((record_of t).a, (record_of t).b, u.0, u.1, u.2),
    λ (c, d, i, j, k). behind (node v q) Implies t z (Substituted v x e a) (Substituted v x e b) first second f g c d refl i j k,
  )
  substituted_shape q (join iff a b) t z fr first second f g = (
    λ h. let u = ahead (node v q) Iff t z (Substituted v x e a) (Substituted v x e b) first second f g h in ((record_of t).a, (record_of t).b, u.0, u.1, u.2),
    λ (c, d, i, j, k). behind (node v q) Iff t z (Substituted v x e a) (Substituted v x e b) first second f g c d refl i j k,
  )
  substituted_shape q (bind forall y b) t z fr first second f g = (
    λ h. let o = uncaught (free v y e) (eqb (kind_number (record_of t).kind) 9 && (first && second)) h in
        let u = ahead (node v q) ForAll t z (λ n. n ≡ y) (Substituted v x e b) first second f g o.1 in
        ((record_of t).b, u.0 ∙ ap (λ n. bind forall n (record_of t).b) u.1, o.0, u.2),
    λ (c, i, n, j). caught (free v y e) (eqb (kind_number (record_of t).kind) 9 && (first && second)) n
        (behind (node v q) ForAll t z (λ n. n ≡ y) (Substituted v x e b) first second f g y c refl i refl j),
  )
  substituted_shape q (bind exists y b) t z fr first second f g = (
    λ h. let o = uncaught (free v y e) (eqb (kind_number (record_of t).kind) 10 && (first && second)) h in
        let u = ahead (node v q) Exists t z (λ n. n ≡ y) (Substituted v x e b) first second f g o.1 in
        ((record_of t).b, u.0 ∙ ap (λ n. bind exists n (record_of t).b) u.1, o.0, u.2),
    λ (c, i, n, j). caught (free v y e) (eqb (kind_number (record_of t).kind) 10 && (first && second)) n
        (behind (node v q) Exists t z (λ n. n ≡ y) (Substituted v x e b) first second f g y c refl i refl j),
  )
  substituted_shape q (equal a b) t z fr first second f g = (
    λ h. let u = ahead (node v q) Equal t z (Substituted v x e a) (Substituted v x e b) first second f g h in ((record_of t).a, (record_of t).b, u.0, u.1, u.2),
    λ (c, d, i, j, k). behind (node v q) Equal t z (Substituted v x e a) (Substituted v x e b) first second f g c d refl i j k,
  )
  substituted_shape q (member a s) t z fr first second f g = (
    λ h. let u = ahead (node v q) Member t z (Substituted v x e a) (λ n. n ≡ s) first second f g h in ((record_of t).a, u.0 ∙ ap (member (record_of t).a) u.2, u.1),
    λ (c, i, j). behind (node v q) Member t z (Substituted v x e a) (λ n. n ≡ s) first second f g c s refl i j refl,
  )

  module _ (falling : Falling v) (p q : ℕ) where
    substituted_opens : Substituted v x e p q → SubstitutedLayer v x e p (through (Substituted v x e) (node v p)) q
    substituted_opens h = subst (λ (r : ℕ → Type 0). r q) (substituted_is v falling x e p) h

    substituted_shuts : SubstitutedLayer v x e p (through (Substituted v x e) (node v p)) q → Substituted v x e p q
    substituted_shuts h = subst (λ (r : ℕ → Type 0). r q) (sym (substituted_is v falling x e p)) h

    -- where x is not free, q is p
    pub substituted_apart : T (not (free v x p)) → T (eqb q p) ↔ Substituted v x e p q
    substituted_apart n = (λ t. substituted_shuts (inl (n, eqb→eq q p t)), λ h. ⊎_elim (λ (_, i). subst (λ m. T (eqb m p)) (sym i) (eqb_refl p)) (λ (f, _). absurd (T_not _ n f)) (substituted_opens h))

    -- where it is free, from what is found at the operands
    pub substituted_found : T (free v x p) → (r s : Record) → r ≡ record_of (node v p) → s ≡ record_of (node v q) → (first second answer : Bool)
        → (T first ↔ Replaced (Substituted v x e) (first_role r.kind) r.a s.a)
        → (T second ↔ Replaced (Substituted v x e) (second_role r.kind) r.b s.b)
        → answer ≡ substituted_under v e r s q first second → T answer ↔ Substituted v x e p q
    substituted_found fr r s er es first second answer f g a =
        let shaped = substituted_shape q (node v p) (node v q) refl (subst T (free_is v falling x p) fr) first second
        (subst (λ (j : Record). T first ↔ Replaced (Substituted v x e) (first_role j.kind) j.a (record_of (node v q)).a) er
        (subst (λ (j : Record). T first ↔ Replaced (Substituted v x e) (first_role r.kind) r.a j.a) es f))
        (subst (λ (j : Record). T second ↔ Replaced (Substituted v x e) (second_role j.kind) j.b (record_of (node v q)).b) er
        (subst (λ (j : Record). T second ↔ Replaced (Substituted v x e) (second_role r.kind) r.b j.b) es g)) in
        let b : answer ≡ substituted_under v e (record_of (node v p)) (record_of (node v q)) q first second =
        a ∙ ap₂ (λ (i j : Record). substituted_under v e i j q first second) er es in (
          λ t. substituted_shuts (inr (fr, shaped.0 (subst T b t))),
          λ h. ⊎_elim (λ (n, _). absurd (T_not _ n fr)) (λ (_, k). subst T (sym b) (shaped.1 k)) (substituted_opens h),
        )

-- the five tests that a substitution is
pub substituted_decided : (v : Vocabulary) → WellFormed v → (q x e p t u : ℕ) (known var expression put : Bool) → known ≡ knows_formula v p → var ≡ knows_variable v x
    → expression ≡ is_expression v e → t ≡ type_of v e → u ≡ variable_type v x → (T put ↔ Substituted v x e p q)
    → T (known && (var && (expression && (eqb t u && put)))) ↔ IsSubstitution v q x e p
substituted_decided v wf q x e p t u known var expression put ek el ee et eu ep = (forwards, backwards)
  where
    forwards : T (known && (var && (expression && (eqb t u && put)))) → IsSubstitution v q x e p
    forwards h =
        let h2 = and_right known (var && (expression && (eqb t u && put))) h in
        let h3 = and_right var (expression && (eqb t u && put)) h2 in
        let h4 = and_right expression (eqb t u && put) h3 in (
          ltb→lt p _ (subst T ek (and_left known (var && (expression && (eqb t u && put))) h)),
          ltb→lt x _ (subst T el (and_left var (expression && (eqb t u && put)) h2)),
          (types_decided v wf e (variable_type v x)).1 (subst T ee (and_left expression (eqb t u && put) h3), sym et ∙ (eqb→eq t u (and_left (eqb t u) put h4) ∙ eu)),
          ep.0 (and_right (eqb t u) put h4),
        )

    backwards : IsSubstitution v q x e p → T (known && (var && (expression && (eqb t u && put))))
    backwards (i, j, h, s) =
        let d = (types_decided v wf e (variable_type v x)).0 h in
        let same : t ≡ u = et ∙ (d.1 ∙ sym eu) in
        and_both known (var && (expression && (eqb t u && put))) (subst T (sym ek) (lt→ltb p _ i))
        (and_both var (expression && (eqb t u && put)) (subst T (sym el) (lt→ltb x _ j))
        (and_both expression (eqb t u && put) (subst T (sym ee) d.0)
        (and_both (eqb t u) put (subst (λ n. T (eqb n u)) (sym same) (eqb_refl u)) (ep.1 s))))

-- the value of an expression is one of the type that is answered
pub type_answered : (v : Vocabulary) → WellFormed v → (n k t : ℕ) (b : Bool) → b ≡ is_expression v n → k ≡ type_of v n → then_some b k ≡ Some t → Valued v n t
type_answered v wf n k t true e h i = let same : k ≡ t = cc in values_typed v wf n t ((types_decided v wf n t).1 (is_so _ (sym e), sym h ∙ same))
type_answered v wf n k t false e h i = let z : ◌≡◌ {A = ℕ} 0 1 = cc in absurd (omega arith)
