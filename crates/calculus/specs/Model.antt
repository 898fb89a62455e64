-- Sequents in memory, as the logic has them.
use Rattle.std.specs.Prelude.{List, map, take}
use Rattle.logic.specs.Meanings.{Sequent as Seq}
use Rattle.calculus.specs.declared.sequent.Sequent.{Sequent}

abbrev pub seq : Sequent → Seq
seq s = record { goal = s.goal; hypotheses = take s.count s.hypotheses }

abbrev pub seqs : List Sequent → List Seq
seqs ss = map seq ss
