-- The test for a predicate decides it.
use Rattle.std.proofs.Common.{ℕ, length, Decides, ltb→lt, lt→ltb}
use Rattle.logic.specs.Formulas.{Vocabulary, node, Predicate, predicate_shape}
use Rattle.logic.specs.Deciding.{is_predicate, knows_formula}
use Rattle.logic.proofs.Tests.{and_both, and_left, and_right, is_true, is_so}

pub predicate_decided : (v : Vocabulary) (n : ℕ) → Decides (is_predicate v n) (Predicate v n)
predicate_decided v n = (
  λ e. let t = is_so (is_predicate v n) e in
      (ltb→lt n (length v.formulas) (and_left (knows_formula v n) (predicate_shape (node v n)) t), and_right (knows_formula v n) (predicate_shape (node v n)) t),
  λ (h, t). is_true (is_predicate v n) (and_both (knows_formula v n) (predicate_shape (node v n)) (lt→ltb n (length v.formulas) h) t),
)
