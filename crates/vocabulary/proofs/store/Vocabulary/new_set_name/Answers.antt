use Rattle.std.proofs.Common.{ℕ, List, length, vec_items, arith}
use Rattle.std.proofs.lemmas.Bool.{ltb-true}
use Rattle.logic.specs.Deciding.{Sure}
use Rattle.logic.proofs.Entering.{enters_set}
use Rattle.vocabulary.specs.Lists.{view}
use Rattle.vocabulary.specs.Stored.{Stored}
use Rattle.vocabulary.specs.View.{model}
use Rattle.vocabulary.proofs.Views.{stored}
use Rattle.vocabulary.proofs.Kept.{sure, appended, stored_with_set}
use Rattle.vocabulary.proofs.store.Vocabulary.new_set_name.Goals as goal

pub invariant_of-self : goal.invariant_of-self
invariant_of-self c =
    let v = c.args.self.now in
    let fs = vec_items v.formulas in
    let known = ltb-true c.args.t (length (model v).types) (cc) in
    let after = stored_with_set (model v) fs (stored v) c.args.t (enters_set (model v) c.args.t (stored v).well_formed known) in
    record { few = omega arith; room = omega arith; stored = appended (λ (xs : List ℕ). Sure (Stored (view (vec_items v.types) (vec_items v.variables) xs fs) fs)) _ _ _ _ _ c.append.result c.append.ensures.items v.stored (sure after) }
