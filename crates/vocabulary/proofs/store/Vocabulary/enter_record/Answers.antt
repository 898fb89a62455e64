use Rattle.std.proofs.Common.{◌≡◌, List, [], ◌∷◌, ◌++◌, length, vec_items, sym, subst, arith}
use lib.ListN.{length-map}
use Rattle.logic.specs.Formulas.{Vocabulary}
use Rattle.logic.specs.Deciding.{Sure}
use Rattle.vocabulary.specs.declared.facts.Formula.{Formula}
use Rattle.vocabulary.specs.Lists.{stored_shape, view}
use Rattle.vocabulary.specs.Stored.{Stored}
use Rattle.vocabulary.specs.View.{model}
use Rattle.vocabulary.proofs.Views.{stored, view_with_formula}
use Rattle.vocabulary.proofs.Kept.{sure, appended}
use Rattle.vocabulary.proofs.Entered.{stored_push}
use Rattle.vocabulary.proofs.store.Vocabulary.enter_record.Goals as goal

pub invariant_of-self : goal.invariant_of-self
invariant_of-self c =
    let v = c.args.self.now in
    let ts = vec_items v.types in
    let vs = vec_items v.variables in
    let ss = vec_items v.set_names in
    let fs = vec_items v.formulas in
    let f : Formula = record { entered = c.args.r; facts = c.args.facts } in
    let len : length fs ≡ length (model v).formulas = omega (arith, length-map fs stored_shape) in
    let after = stored_push (model v) f fs len (stored v) c.requires.admitted.0 c.requires.fresh c.requires.admitted.1 in
    let shown = subst (λ (w : Vocabulary). Sure (Stored w (fs ++ f ∷ []))) (sym (view_with_formula ts vs ss fs f)) (sure after) in
    record { few = omega arith; room = omega arith; stored = appended (λ (xs : List Formula). Sure (Stored (view ts vs ss xs) xs)) _ _ _ _ _ c.append.result c.append.ensures.items v.stored shown }
