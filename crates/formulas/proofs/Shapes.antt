-- Records and shapes: each is made of the other, and the operands of one are those of the other.
use Rattle.std.proofs.Common.{◌≡◌, ℕ, ◌<◌, Bool, true, false, not, ◌&&◌, T, eqb, ◌↔◌, unwrap_or, sym, refl, ap, ◌∙◌, subst, ap₂, inl, inr, eqb→eq}
use lib.Dec.{eqb_refl}
use Rattle.std.proofs.lemmas.Bool.{false≢true, and_parts, and_from, eqb-true}
use Rattle.logic.specs.Formulas.{In, and, or, implies, iff, forall, exists, Shape, variable, pair, falsity, truth, negation, join, bind, equal, member, operands, Vocabulary, node, predicate_shape, Falling}
use Rattle.logic.proofs.Tests.{and_left, and_right, is_true, is_so}
use Rattle.formulas.specs.declared.kinds.Kind.{Kind}
use Rattle.formulas.specs.declared.kinds.Kind.TheVariants.{Variable, Pair, False, True, Not, And, Or, Implies, Iff, ForAll, Exists, Equal, Member}
use Rattle.formulas.specs.declared.records.Record.{Record}
use Rattle.formulas.specs.Kinds.{kind_number, kind_numbered, first_role, second_role, is_formula, is_expression_kind}
use Rattle.formulas.specs.Records.{shape, shape_of, record_of, entry, plain, same_record}

pub back_entry : (k : Kind) (a b : ℕ) → plain (entry k a b) ≡ true → record_of (shape k a b) ≡ entry k a b
back_entry Variable a b e = ap (entry Variable a) (sym (eqb-true b 0 e))
back_entry Pair a b e = refl
back_entry False a b e = let p = and_parts (eqb a 0) (eqb b 0) e in ap₂ (entry False) (sym (eqb-true a 0 p.0)) (sym (eqb-true b 0 p.1))
back_entry True a b e = let p = and_parts (eqb a 0) (eqb b 0) e in ap₂ (entry True) (sym (eqb-true a 0 p.0)) (sym (eqb-true b 0 p.1))
back_entry Not a b e = ap (entry Not a) (sym (eqb-true b 0 e))
back_entry And a b e = refl
back_entry Or a b e = refl
back_entry Implies a b e = refl
back_entry Iff a b e = refl
back_entry ForAll a b e = refl
back_entry Exists a b e = refl
back_entry Equal a b e = refl
back_entry Member a b e = refl

-- the record of a record's shape is the record
pub back : (r : Record) → plain r ≡ true → record_of (shape_of r) ≡ r
back r e = back_entry r.kind r.a r.b e

pub same_itself : (r : Record) → same_record r r ≡ true
same_itself r = and_from (eqb (kind_number r.kind) (kind_number r.kind)) (eqb r.a r.a && eqb r.b r.b)
    (is_true _ (eqb_refl (kind_number r.kind))) (and_from (eqb r.a r.a) (eqb r.b r.b) (is_true _ (eqb_refl r.a)) (is_true _ (eqb_refl r.b)))

-- the shape of a shape's record is the shape
pub forth : (s : Shape ℕ) → s ≡ shape_of (record_of s)
forth (variable x) = refl
forth (pair a b) = refl
forth falsity = refl
forth truth = refl
forth (negation a) = refl
forth (join and a b) = refl
forth (join or a b) = refl
forth (join implies a b) = refl
forth (join iff a b) = refl
forth (bind forall x b) = refl
forth (bind exists x b) = refl
forth (equal a b) = refl
forth (member a s) = refl

kind_back : (k : Kind) → unwrap_or (kind_numbered (kind_number k)) Variable ≡ k
kind_back Variable = refl
kind_back Pair = refl
kind_back False = refl
kind_back True = refl
kind_back Not = refl
kind_back And = refl
kind_back Or = refl
kind_back Implies = refl
kind_back Iff = refl
kind_back ForAll = refl
kind_back Exists = refl
kind_back Equal = refl
kind_back Member = refl

-- a shape of a kind is made by that kind from its record's operands
pub of_kind : (s : Shape ℕ) (k : Kind) → kind_number (record_of s).kind ≡ kind_number k → s ≡ shape k (record_of s).a (record_of s).b
of_kind s k e =
    let same : (record_of s).kind ≡ k = sym (kind_back (record_of s).kind) ∙ (ap (λ (n : ℕ). unwrap_or (kind_numbered n) Variable) e ∙ kind_back k) in
    forth s ∙ ap (λ (j : Kind). shape j (record_of s).a (record_of s).b) same

pub first_operand : (s : Shape ℕ) → is_formula (first_role (record_of s).kind) ≡ true → In (record_of s).a (operands s)
first_operand (variable x) e = absurd (false≢true e)
first_operand (pair a b) e = inl refl
first_operand falsity e = absurd (false≢true e)
first_operand truth e = absurd (false≢true e)
first_operand (negation a) e = inl refl
first_operand (join and a b) e = inl refl
first_operand (join or a b) e = inl refl
first_operand (join implies a b) e = inl refl
first_operand (join iff a b) e = inl refl
first_operand (bind forall x b) e = absurd (false≢true e)
first_operand (bind exists x b) e = absurd (false≢true e)
first_operand (equal a b) e = inl refl
first_operand (member a s) e = inl refl

pub second_operand : (s : Shape ℕ) → is_formula (second_role (record_of s).kind) ≡ true → In (record_of s).b (operands s)
second_operand (variable x) e = absurd (false≢true e)
second_operand (pair a b) e = inr (inl refl)
second_operand falsity e = absurd (false≢true e)
second_operand truth e = absurd (false≢true e)
second_operand (negation a) e = absurd (false≢true e)
second_operand (join and a b) e = inr (inl refl)
second_operand (join or a b) e = inr (inl refl)
second_operand (join implies a b) e = inr (inl refl)
second_operand (join iff a b) e = inr (inl refl)
second_operand (bind forall x b) e = inl refl
second_operand (bind exists x b) e = inl refl
second_operand (equal a b) e = inr (inl refl)
second_operand (member a s) e = absurd (false≢true e)

pub first_below : (v : Vocabulary) → Falling v → (n : ℕ) (r : Record) → r ≡ record_of (node v n) → is_formula (first_role r.kind) ≡ true → r.a < n
first_below v falling n r e =
    subst (λ (q : Record). is_formula (first_role q.kind) ≡ true → q.a < n) (sym e) (λ f. falling n (record_of (node v n)).a (first_operand (node v n) f))

pub second_below : (v : Vocabulary) → Falling v → (n : ℕ) (r : Record) → r ≡ record_of (node v n) → is_formula (second_role r.kind) ≡ true → r.b < n
second_below v falling n r e =
    subst (λ (q : Record). is_formula (second_role q.kind) ≡ true → q.b < n) (sym e) (λ f. falling n (record_of (node v n)).b (second_operand (node v n) f))

pub expression_kind : (s : Shape ℕ) → is_expression_kind (record_of s).kind ≡ not (predicate_shape s)
expression_kind (variable x) = refl
expression_kind (pair a b) = refl
expression_kind falsity = refl
expression_kind truth = refl
expression_kind (negation a) = refl
expression_kind (join and a b) = refl
expression_kind (join or a b) = refl
expression_kind (join implies a b) = refl
expression_kind (join iff a b) = refl
expression_kind (bind forall x b) = refl
expression_kind (bind exists x b) = refl
expression_kind (equal a b) = refl
expression_kind (member a s) = refl

pub predicate_kind : (s : Shape ℕ) → not (is_expression_kind (record_of s).kind) ≡ predicate_shape s
predicate_kind s = ap not (expression_kind s) ∙ twice (predicate_shape s)
  where
    twice : (b : Bool) → not (not b) ≡ b
    twice true = refl
    twice false = refl

-- shapes with one record are one shape
pub one_shape : (s t : Shape ℕ) → record_of s ≡ record_of t → s ≡ t
one_shape s t e = forth s ∙ (ap shape_of e ∙ sym (forth t))

pub same_means : (r s : Record) → T (same_record r s) ↔ (s ≡ r)
same_means r s = (forwards, λ e. subst (λ (q : Record). T (same_record r q)) (sym e) (is_so _ (same_itself r)))
  where
    forwards : T (same_record r s) → s ≡ r
    forwards t =
        let k = and_left (eqb (kind_number s.kind) (kind_number r.kind)) (eqb s.a r.a && eqb s.b r.b) t in
        let o = and_right (eqb (kind_number s.kind) (kind_number r.kind)) (eqb s.a r.a && eqb s.b r.b) t in
        let same : s.kind ≡ r.kind = sym (kind_back s.kind) ∙ (ap (λ (n : ℕ). unwrap_or (kind_numbered n) Variable) (eqb→eq _ _ k) ∙ kind_back r.kind) in
        ap (λ (j : Kind). entry j s.a s.b) same
        ∙ (ap (λ (a : ℕ). entry r.kind a s.b) (eqb→eq _ _ (and_left (eqb s.a r.a) (eqb s.b r.b) o))
        ∙ ap (entry r.kind r.a) (eqb→eq _ _ (and_right (eqb s.a r.a) (eqb s.b r.b) o)))
