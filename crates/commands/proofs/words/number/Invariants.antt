use Rattle.std.proofs.Common.{◌≡◌, ◌^◌, ◌<◌, drop}
use Rattle.commands.specs.Words.{read_digits}
use Rattle.commands.proofs.words.number.Given as goal

abbrev pub invariant-loop-b : goal.invariant-loop-b
invariant-loop-b l = (l.n < 2 ^ 32) × (read_digits l.n (drop l.b-index l.word) ≡ read_digits 0 l.word)
