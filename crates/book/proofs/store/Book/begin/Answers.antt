use Rattle.book.proofs.Keeping.{keeps_the_law}
use Rattle.book.proofs.store.Book.begin.Goals as goal

pub returns-in_err-vocabulary-clause-law : goal.returns-in_err-vocabulary-clause-law
returns-in_err-vocabulary-clause-law g c = keeps_the_law (g.T.Theory.meaning c.args.theory.now) (g.met.T.Theory.sound c.args.theory.now)

pub returns-in_err-entries-clause-law : goal.returns-in_err-entries-clause-law
returns-in_err-entries-clause-law g c = keeps_the_law (g.T.Theory.meaning c.args.theory.now) (g.met.T.Theory.sound c.args.theory.now)

pub returns-clause-law : goal.returns-clause-law
returns-clause-law g c = keeps_the_law (g.T.Theory.meaning c.args.theory.now) (g.met.T.Theory.sound c.args.theory.now)
