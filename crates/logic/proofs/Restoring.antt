-- A vocabulary that is surely well formed is well formed.
use Rattle.std.proofs.Common.{◌≡◌, ℕ, ◌<◌, ◌≤◌, Bool, ◌&&◌, T, eqb, ltb, leb, length, le→leb, eqb→eq, ltb→lt, lt→ltb, leb→le}
use lib.Dec.{eqb_refl}
use Rattle.logic.specs.Formulas.{node, variable_type, element_type, Falling}
use Rattle.logic.specs.Deciding.{sorted, agreed, Sure, SureWellFormed}
use Rattle.logic.proofs.Tests.{is_true, is_so}
use Rattle.logic.proofs.Deciding.{Tested, formed_since, tested}

module _ {A : Type 0} (sure : Sure A) where
  pub sure_test : (b : Bool) → (A → T b) → T b
  sure_test b h = is_so b (sure b λ a. is_true b (h a))

  pub sure_less : (m n : ℕ) → (A → m < n) → m < n
  sure_less m n h = ltb→lt m n (sure_test (ltb m n) λ a. lt→ltb m n (h a))

  pub sure_same : (m n : ℕ) → (A → m ≡ n) → m ≡ n
  sure_same m n h = eqb→eq m n (sure_test (eqb m n) λ a. rw (h a) (eqb_refl n))

  pub sure_most : (m n : ℕ) → (A → m ≤ n) → m ≤ n
  sure_most m n h = leb→le m n (sure_test (leb m n) λ a. le→leb m n (h a))

pub sure_well_formed : SureWellFormed
sure_well_formed v sure =
    let falling : Falling v = λ n m i. sure_less sure m n λ wf. wf.formulas_fall n m i in
    let passed : Tested v = λ n h. sure_test sure (sorted v (node v n) && agreed v (node v n)) λ wf. tested v wf n h in
    record {
      types_fall = λ t r i. sure_less sure r t λ wf. wf.types_fall t r i;
      formulas_fall = falling;
      products_once = λ t r a b i j. sure_same sure t r λ wf. wf.products_once t r a b i j;
      variables_typed = λ x h. sure_less sure (variable_type v x) (length v.types) λ wf. wf.variables_typed x h;
      sets_typed = λ s h. sure_less sure (element_type v s) (length v.types) λ wf. wf.sets_typed s h;
      formed = λ n h. formed_since v falling passed (node v n) (passed n h);
      records_once = λ n m h k e. sure_same sure n m λ wf. wf.records_once n m h k e;
    }
