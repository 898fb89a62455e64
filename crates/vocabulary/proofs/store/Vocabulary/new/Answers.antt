use Rattle.std.proofs.Common.{vec_items, arith}
use Rattle.vocabulary.specs.Lists.{view}
use Rattle.vocabulary.proofs.Kept.{sure, begun, begun_stored}
use Rattle.vocabulary.proofs.store.Vocabulary.new.Goals as goal

pub invariant_of-result : goal.invariant_of-result
invariant_of-result c =
    let ts = vec_items c.in_ok-types.types in
    let vs = vec_items c.in_ok-variables.variables in
    let ss = vec_items c.in_ok-set_names.set_names in
    let fs = vec_items c.in_ok-formulas.formulas in
    let t = c.in_ok-types.ensures in
    let v = c.in_ok-variables.ensures in
    let s = c.in_ok-set_names.ensures in
    let f = c.in_ok-formulas.ensures in
    let e = begun ts vs ss fs t.items v.items s.items f.items in
    record { few = omega arith; room = omega arith; stored = sure (begun_stored fs (view ts vs ss fs) e f.items) }
