-- The worked example, whole: the vocabulary, two derivations, and a run of a book.
use Rattle.rules.specs.Examples as rules
use Rattle.rules.specs.Theories.{standard}
use Rattle.book.specs.Books.{Model}
use Rattle.book.specs.Example.{worked_calls}
use Rattle.book.specs.Runs.{Run}

-- What is so of the vocabulary and of the two derivations; and the calls of the morning are a run of book 7: rules 4 and 6 are given,
-- the first derivation concludes 7 from both as entry 2, entry 1 is held, previewed and withdrawn, both times with the pair (1, 2),
-- entry 2 is then fallen, and entry 0 stands.
abbrev pub WorkedExample : Type 0
WorkedExample = rules.WorkedExample × ((b : Model) × Run standard 7 (worked_calls rules.right_steps rules.right_list) b)
