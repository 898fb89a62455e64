use Rattle.std.proofs.Common.{[], ◌∷◌, Some, None, ap, ◌∙◌}
use Rattle.std.proofs.lemmas.Bool.Decides.{Decides-eqb}
use Rattle.std.proofs.lemmas.Slice.Eq.{strip_suffix_is}
use Rattle.commands.proofs.Ending.{no_newline, without_newline}
use Rattle.commands.proofs.command.without_ending.Goals as goal

pub returns-in_default : goal.returns-in_default
returns-in_default c =
    no_newline c.args.line.now (strip_suffix_is Decides-eqb c.args.line.now (10 ∷ []) None c.in_default.ensures.cases)

pub returns : goal.returns
returns c =
    let text = c.in-Some.text in
    let whole = strip_suffix_is Decides-eqb c.args.line.now (10 ∷ []) (Some text) c.in-Some.ensures.cases in
    let rest = strip_suffix_is Decides-eqb text.now (13 ∷ []) c.strip_suffix-2.result c.strip_suffix-2.ensures.cases in
    ap (λ r. r.now) c.unwrap_or.ensures ∙ without_newline c.args.line.now text c.strip_suffix-2.result whole rest
