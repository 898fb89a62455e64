use Rattle.std.proofs.Common.{is_some, refl, ◌∙◌, rules}
use Rattle.std.proofs.lemmas.Iterator.Consumers.{YieldsList-from_first}
use Rattle.std.proofs.lemmas.Iterator.Search.{all_from_yields_List}
use Rattle.commands.specs.declared.words.Words.{Words}
use Rattle.commands.specs.Words.{words, number}
use Rattle.commands.proofs.Collecting.{all_are_numbers}
use Rattle.commands.proofs.words.are_numbers.Goals as goal

pub returns : goal.returns
returns c =
    let ws = words c.args.rest.text.now in
    all_from_yields_List (λ w. is_some (number 16 w)) c.all.new.self _ c.all.result c.all.ensures.ran (YieldsList-from_first (λ x. x.now) (λ (s : Words). words s.text.now) ws refl) (λ x b q h. search rules)
    ∙ all_are_numbers ws
