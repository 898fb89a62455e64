use Rattle.std.proofs.Common.{◌≡◌, vec_items}
use Rattle.commands.specs.Words.{words, all_numbers}
use Rattle.commands.proofs.Collecting.{prefixed}
use Rattle.commands.proofs.words.all_numbers.Given as goal

abbrev pub invariant-loop-word : goal.invariant-loop-word
invariant-loop-word l = all_numbers (words l.fn.rest.text.now) ≡ prefixed (vec_items l.all) (all_numbers (words l.word-iterator.text.now))
