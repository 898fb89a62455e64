use Rattle.std.proofs.Common.{Result, subst}
use Rattle.logic.specs.Meanings.{Sequent as Seq}
use Rattle.calculus.specs.declared.refusal.Refusal.{Refusal as DerivationRefusal}
use Rattle.book.specs.Concluding.{conclude, verdict_of}
use Rattle.book.specs.Runs.{Comes}
use Rattle.book.proofs.Verdicts.{one_verdict}
use Rattle.book.proofs.store.Book.conclude.Goals as goal

pub returns : goal.returns
returns g c =
    let m = g.T.Theory.meaning c.args.theory.now in
    let b = c.args.self.now in
    let xs = c.args.steps.now in
    let hs = c.args.hypotheses.now in
    let cites = c.args.citations.now in
    let one = verdict_of c.judge-verdict.result in
    let judged = c.judge-verdict.ensures in
    let came : Comes (conclude b one cites) c.conclude_by.result c.conclude_by.new.self = (c.conclude_by.ensures.answer, c.conclude_by.ensures.after) in
    record {
      exact = λ verdict j. subst (λ (u : Result Seq DerivationRefusal). Comes (conclude b u cites) c.conclude_by.result c.conclude_by.new.self)
          (one_verdict m b.vocabulary xs hs cites one verdict judged j) came;
      does = (one, judged, came);
    }
