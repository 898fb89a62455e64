use Rattle.book.specs.Runs.{Run}
use Rattle.book_tests.specs.Runs.{two_calls}
use Rattle.book_tests.proofs.caller.enter_and_give.Goals as goal

pub returns : goal.returns
returns g c =
    let m = g.T.Theory.meaning c.args.theory.now in
    let begun = c.in_ok-b.ensures in
    let calls = two_calls c.args.call c.enter.result c.args.p c.give.result in
    let run : Run m 7 calls c.give.new.self = (c.enter.new.self, (c.in_ok-b.b, begun.new, c.enter.ensures.does), c.give.ensures.does) in
    (c.enter.result, c.give.result, run, begun.law 7 calls c.give.new.self run)
