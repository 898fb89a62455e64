use Rattle.matching.specs.Reading.{is}
use Rattle.matching.proofs.reading.is.Goals as goal

pub returns : goal.returns
unfolding is
returns c = c.has_record.ensures
