use Rattle.std.proofs.Common.{sym, ◌∙◌, arith, length-set}
use Rattle.commands.specs.Words.{words}
use Rattle.commands.proofs.Collecting.{number_more}
use Rattle.commands.proofs.words.numbers.Goals as goal

pub loop-n-preserved : goal.loop-n-preserved
loop-n-preserved g c = (
  length-set c.loop-n.n-items c.loop-n.n-index c.in_ok-n.field-0 ∙ c.loop-n.invariant.0,
  c.loop-n.invariant.1
      ∙ number_more g.row.N c.loop-n.n-index c.loop-n.n-items (words c.loop-n.rest.text.now) c.in_ok-next.field-0.now (words c.next.new.self.text.now) c.in_ok-n.field-0 (omega arith) c.loop-n.invariant.0 c.in_ok-next.ensures.steps (sym c.in_ok-n.ensures),
)
