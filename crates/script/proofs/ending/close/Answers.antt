use Rattle.std.proofs.Common.{◌<◌, length, Ok, Err, vec_items, sym, refl, ◌∙◌, rules}
use Rattle.book.specs.Books.{lift}
use Rattle.script.proofs.Closing.{closes, closed_so}
use Rattle.script.proofs.Shelved.{here, put}
use Rattle.script.proofs.ending.close.Goals as goal

pub returns-in-Ok : goal.returns-in-Ok
returns-in-Ok c =
    let bs = vec_items c.args.books.now in
    let k = c.in_ok-hold.field-0.granted_by in
    let x = c.in_ok-hold.field-0.hold in
    let b = c.index_mut.result.now in
    let within : k < length bs = search rules in
    let at = here bs k b within c.index_mut.ensures.value in
    record {
      answer = closes bs k b x c.args.held c.args.h (Ok c.in-Ok.field-0) c.in_ok-hold.was at (sym c.in-Ok.is ∙ c.lift.ensures.answer);
      after = put bs k c.lift.new.self (lift b x).after c.lift.ensures.after ∙ closed_so bs k b x c.args.held c.in_ok-hold.was at;
      len = refl;
    }

pub returns-in-Err : goal.returns-in-Err
returns-in-Err c =
    let bs = vec_items c.args.books.now in
    let k = c.in_ok-hold.field-0.granted_by in
    let x = c.in_ok-hold.field-0.hold in
    let b = c.index_mut.result.now in
    let within : k < length bs = search rules in
    let at = here bs k b within c.index_mut.ensures.value in
    record {
      answer = closes bs k b x c.args.held c.args.h (Err c.in-Err.field-0) c.in_ok-hold.was at (sym c.in-Err.is ∙ c.lift.ensures.answer);
      after = put bs k c.lift.new.self (lift b x).after c.lift.ensures.after ∙ closed_so bs k b x c.args.held c.in_ok-hold.was at;
      len = refl;
    }
