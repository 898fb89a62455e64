-- What the answers of a vocabulary say of a formula's shape.
use Rattle.std.proofs.Common.{◌≡◌, ℕ, ◌<◌, Bool, true, not, T, eqb, length, sym, ap, ◌∙◌, subst, subst₂, ⊎_elim, ltb→lt, lt→ltb}
use Rattle.std.proofs.lemmas.Bool.{and_parts, and_from, cases_lt}
use Rattle.logic.specs.Formulas.{Shape, falsity, Vocabulary, node}
use Rattle.logic.specs.Rules.{Falsity}
use Rattle.logic.proofs.Deciding.{found_means, found_some, node_past}
use Rattle.logic.proofs.Tests.{is_true, is_so}
use Rattle.formulas.specs.declared.kinds.Kind.{Kind}
use Rattle.formulas.specs.declared.kinds.Kind.TheVariants.{False}
use Rattle.formulas.specs.declared.records.Record.{Record}
use Rattle.formulas.specs.Kinds.{kind_number}
use Rattle.formulas.specs.Records.{shape, shape_of, entry, record_of, plain, same_record}
use Rattle.formulas.proofs.Shapes.{back_entry, forth, same_means}
use Rattle.matching.specs.Reading.{is, has_kind, has_number, number_of}

-- a shape other than ⊥, told by its record
abbrev pub other : Shape ℕ → Bool
other s = not (eqb (kind_number (record_of s).kind) 2)

module _ (v : Vocabulary) where
  -- a formula other than ⊥ is known
  known : (n : ℕ) (s : Shape ℕ) → T (other s) → node v n ≡ s → n < length v.formulas
  known n s t e = ⊎_elim (λ h. h) (λ h. absurd (subst (λ (r : Shape ℕ). T (other r)) (sym e ∙ node_past v n h) t)) (cases_lt n (length v.formulas))

  record_read : (n : ℕ) (k : Kind) (a b : ℕ) → plain (entry k a b) ≡ true → node v n ≡ shape k a b → record_of (node v n) ≡ entry k a b
  record_read n k a b p e = ap record_of e ∙ back_entry k a b p

  shape_read : (n : ℕ) (k : Kind) (a b : ℕ) → T (same_record (entry k a b) (record_of (node v n))) → node v n ≡ shape k a b
  shape_read n k a b t = forth (node v n) ∙ ap shape_of ((same_means (entry k a b) (record_of (node v n))).0 t)

  is_known : (n : ℕ) (k : Kind) (a b : ℕ) → n < length v.formulas → record_of (node v n) ≡ entry k a b → is v n k a b ≡ true
  unfolding is
  is_known n k a b h e = and_from _ _ (is_true _ (lt→ltb n (length v.formulas) h)) (is_true _ ((same_means (entry k a b) (record_of (node v n))).1 e))

  -- a formula that passes the test has the shape
  pub shape_by_test : (n : ℕ) (k : Kind) (a b : ℕ) → is v n k a b ≡ true → node v n ≡ shape k a b
  unfolding is
  shape_by_test n k a b h = shape_read n k a b (is_so _ (and_parts _ _ h).1)

  pub falsity_by_test : (n : ℕ) → is v n False 0 0 ≡ true → Falsity v n
  unfolding is
  falsity_by_test n h = (ltb→lt n (length v.formulas) (is_so _ (and_parts _ _ h).0), shape_by_test n False 0 0 h)

  -- and one that has the shape passes it
  pub test_by_shape : (n : ℕ) (k : Kind) (a b : ℕ) → T (other (shape k a b)) → plain (entry k a b) ≡ true → node v n ≡ shape k a b → is v n k a b ≡ true
  test_by_shape n k a b t p e = is_known n k a b (known n (shape k a b) t e) (record_read n k a b p e)

  pub test_by_falsity : (n : ℕ) → Falsity v n → is v n False 0 0 ≡ true
  test_by_falsity n (h, e) = is_known n False 0 0 h (ap record_of e)

  -- and is of its kind
  pub kind_by_shape : (n : ℕ) (k : Kind) (a b : ℕ) → T (other (shape k a b)) → plain (entry k a b) ≡ true → node v n ≡ shape k a b → has_kind v n k ≡ true
  kind_by_shape n k a b t p e = let r = record_read n k a b p e in
      subst₂ (λ (A B : ℕ). is v n k A B ≡ true) (sym (ap (λ (q : Record). q.a) r)) (sym (ap (λ (q : Record). q.b) r)) (test_by_shape n k a b t p e)

  -- the number found is that of the formula
  pub shape_of_number : (k : Kind) (a b : ℕ) → has_number v k a b ≡ true → node v (number_of v k a b) ≡ shape k a b
  unfolding has_number number_of node
  shape_of_number k a b h = shape_read (number_of v k a b) k a b (found_means (λ s. same_record (entry k a b) (record_of s)) falsity v.formulas (is_so _ h))

  -- and a formula that is in the vocabulary has a number
  pub number_by_shape : (k : Kind) (a b n : ℕ) → T (other (shape k a b)) → plain (entry k a b) ≡ true → node v n ≡ shape k a b → has_number v k a b ≡ true
  unfolding has_number node
  number_by_shape k a b n t p e = is_true _ (found_some (λ s. same_record (entry k a b) (record_of s)) falsity v.formulas n (known n (shape k a b) t e)
      ((same_means (entry k a b) (record_of (node v n))).1 (record_read n k a b p e)))
