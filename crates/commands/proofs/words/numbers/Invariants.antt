use Rattle.std.proofs.Common.{◌≡◌, ◌-◌, length, take}
use Rattle.commands.specs.Words.{words, numbers}
use Rattle.commands.proofs.Collecting.{prefixed}
use Rattle.commands.proofs.words.numbers.Given as goal

abbrev pub invariant-loop-n : goal.invariant-loop-n
invariant-loop-n g l = (length l.n-items ≡ g.row.N) × (numbers 16 g.row.N (words l.fn.rest.text.now) ≡ prefixed (take l.n-index l.n-items) (numbers 16 (g.row.N - l.n-index) (words l.rest.text.now)))
