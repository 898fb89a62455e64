use Rattle.std.proofs.Common.{◌≡◌, ◌∷◌, sym, ap, ◌∙◌, rules, arith}
use Rattle.std.proofs.lemmas.Grind.{common_steps}
use Rattle.commands.specs.Commands.{list_word, conclude_word, request_words, line_of, understood, command}
use Rattle.commands.specs.Words.{words, all_numbers}
use Rattle.commands.proofs.Reading.{spelled, other_line}
use Rattle.commands.proofs.Requests.{append_line, draw_line}
use Rattle.commands.proofs.command.read_words.Goals as goal

pub returns-in-hypotheses : goal.returns-in-hypotheses
returns-in-hypotheses c =
    let ws = words c.args.rest.text.now in
    c.read_list-in-hypotheses.ensures
    ∙ append_line (all_numbers ws)
    ∙ sym (ap (λ w. line_of (request_words (w ∷ ws))) (spelled list_word c.args.word.now (omega arith) (search rules)))

pub returns-in-conclude : goal.returns-in-conclude
returns-in-conclude c =
    let ws = words c.args.rest.text.now in
    c.read_list.ensures
    ∙ draw_line (all_numbers ws)
    ∙ sym (ap (λ w. line_of (request_words (w ∷ ws))) (spelled conclude_word c.args.word.now (omega arith) (search rules)))

pub returns-in_default : goal.returns-in_default
returns-in_default c =
    let w = c.args.word.now in
    let ws = words c.args.rest.text.now in
    let f : w ≡ list_word → ⊥ = λ e. grind (arith, common_steps) in
    let g : w ≡ conclude_word → ⊥ = λ e. grind (arith, common_steps) in
    let same : c.map_or.result ≡ line_of (understood (command w ws)) = search rules in
    same ∙ other_line w ws f g
