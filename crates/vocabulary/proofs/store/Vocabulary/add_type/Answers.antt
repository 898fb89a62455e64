use Rattle.std.proofs.Common.{List, vec_items, sym, subst, arith}
use Rattle.logic.specs.Formulas.{Vocabulary}
use Rattle.logic.specs.Deciding.{Sure}
use Rattle.logic.proofs.Entering.{enters_type}
use Rattle.formulas.specs.declared.records.TypeDef.{TypeDef}
use Rattle.formulas.specs.Records.{sort_of}
use Rattle.vocabulary.specs.Lists.{view}
use Rattle.vocabulary.specs.Stored.{Stored}
use Rattle.vocabulary.specs.View.{model}
use Rattle.vocabulary.proofs.Views.{stored, view_with_type}
use Rattle.vocabulary.proofs.Kept.{sure, appended, stored_with_type}
use Rattle.vocabulary.proofs.store.Vocabulary.add_type.Goals as goal

pub invariant_of-self : goal.invariant_of-self
invariant_of-self c =
    let v = c.args.self.now in
    let vs = vec_items v.variables in
    let ss = vec_items v.set_names in
    let fs = vec_items v.formulas in
    let s = sort_of c.args.d in
    let after = stored_with_type (model v) fs (stored v) s (enters_type (model v) s (stored v).well_formed c.requires.known c.requires.once) in
    let shown = subst (λ (w : Vocabulary). Sure (Stored w fs)) (sym (view_with_type (vec_items v.types) vs ss fs c.args.d)) (sure after) in
    record { few = omega arith; room = omega arith; stored = appended (λ (ts : List TypeDef). Sure (Stored (view ts vs ss fs) fs)) _ _ _ _ _ c.append.result c.append.ensures.items v.stored shown }
