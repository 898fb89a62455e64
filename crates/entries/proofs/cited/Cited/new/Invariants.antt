use Rattle.std.proofs.Common.{◌≡◌, drop, length}
use Rattle.entries.specs.Concluding.{disorder}
use Rattle.entries.proofs.cited.Cited.new.Given as goal

abbrev pub invariant-loop-place : goal.invariant-loop-place
invariant-loop-place l = disorder (length l.entries) 0 0 l.citations ≡ disorder (length l.entries) l.place l.low (drop l.place l.citations)
