use Rattle.std.proofs.Common.{length, sym, ap, ◌∙◌, rules, true-eqb}
use Rattle.std.proofs.lemmas.List.{nil_from_length}
use Rattle.std.specs.Option.{unwrap_or}
use Rattle.commands.proofs.Splitting.{no_words, cut_there}
use Rattle.commands.proofs.words.WordsIterator.next.Goals as goal

pub returns-then-is_empty-clause-steps : goal.returns-then-is_empty-clause-steps
returns-then-is_empty-clause-steps c =
    let none = no_words c.args.self.now.text.now (sym c.after_spaces-text.ensures ∙ nil_from_length _ (true-eqb _ 0 c.if-is_empty.ensures)) in
    (none, none)

pub returns-clause-steps : goal.returns-clause-steps
returns-clause-steps c =
    let text = c.after_spaces-text.result.now in
    let place = c.unwrap_or.ensures ∙ ap (λ o. unwrap_or o (length text)) c.first_space.ensures in
    cut_there c.args.self.now.text.now text _ _ _ c.after_spaces-text.ensures c.if-is_empty.ensures place c.split_at.ensures.front c.split_at.ensures.back

pub returns-clause-goes : goal.returns-clause-goes
returns-clause-goes c =
    let text = c.after_spaces-text.result.now in
    let place = c.unwrap_or.ensures ∙ ap (λ o. unwrap_or o (length text)) c.first_space.ensures in
    let fewer = ap length (cut_there c.args.self.now.text.now text _ _ _ c.after_spaces-text.ensures c.if-is_empty.ensures place c.split_at.ensures.front c.split_at.ensures.back) in
    search rules
