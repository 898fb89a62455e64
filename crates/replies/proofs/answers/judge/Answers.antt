use Rattle.std.proofs.Common.{◌≡◌, Ok, subst, rules}
use Rattle.replies.specs.declared.reply.Reply.TheVariants.{Refused}
use Rattle.replies.specs.Books.{verdict, Verdict}
use Rattle.replies.proofs.Judging.{judged}
use Rattle.replies.proofs.answers.judge.Goals as goal

pub returns-in-Err : goal.returns-in-Err
returns-in-Err c =
    let b = c.args.book.now in
    let xs = c.args.steps.now in
    let hs = c.args.hypotheses.now in
    let told : verdict c.check.result ≡ Refused c.into.result = search rules in
    subst (Verdict b xs hs) told (judged b xs hs c.check.result c.check.ensures.accepted c.check.ensures.refused)

pub returns-in-Ok : goal.returns-in-Ok
returns-in-Ok c =
    judged c.args.book.now c.args.steps.now c.args.hypotheses.now (Ok c.in-Ok.field-0) c.in-Ok.ensures.accepted c.in-Ok.ensures.refused
