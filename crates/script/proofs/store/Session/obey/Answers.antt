use Rattle.std.proofs.Common.{Some, None, vec_items, sym, refl, ap, ◌∙◌, subst}
use Rattle.commands.specs.Commands.{request}
use Rattle.script.specs.Sessions.{Concludes, appended, current_book}
use Rattle.commands.proofs.Requests.{Has, has_numbers}
use Rattle.script.proofs.Obeying.{did_append, did_conclude}
use Rattle.script.proofs.store.Session.obey.Goals as goal

pub returns-in_ok-append-in-Hypotheses : goal.returns-in_ok-append-in-Hypotheses
returns-in_ok-append-in-Hypotheses c =
    let s = c.args.self.now in
    let q = request c.args.line.now in
    let ns = vec_items c.in_ok-numbers-in-Hypotheses.numbers in
    let has = subst (Has q) (sym c.in_ok-numbers-in-Hypotheses.ensures) (has_numbers c.args.line.now) in
    record { does = did_append s c.append.new.self None q ns c.in-Hypotheses.ensures has refl (c.in_ok-append-in-Hypotheses.ensures.after ∙ ap (appended s) c.as_slice.ensures.value); refused = tt }

pub returns-in_ok-citations-in-Conclude : goal.returns-in_ok-citations-in-Conclude
returns-in_ok-citations-in-Conclude c =
    let s = c.args.self.now in
    let q = request c.args.line.now in
    let ns = vec_items c.in_ok-citations-in-Conclude.citations in
    let r = c.conclude.result in
    let t = c.conclude.new.self in
    let has = subst (Has q) (sym c.in_ok-citations-in-Conclude.ensures) (has_numbers c.args.line.now) in
    record { does = did_conclude s t (Some r) q ns r c.in-Conclude.ensures has refl (subst (λ l. Concludes s l (current_book s) r t) c.as_slice-in-Conclude.ensures.value c.conclude.ensures); refused = tt }
