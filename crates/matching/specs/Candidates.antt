-- What a step by a rule has of the table.
use Rattle.std.specs.Prelude.{◌≡◌, Bool, Option}
use Rattle.logic.specs.declared.rule.Rule.{Rule}
use Rattle.vocabulary.specs.View.{model}
use Rattle.matching.specs.declared.lines.Candidate.{Candidate}
use Rattle.matching.specs.declared.line.Line.{Line}
use Rattle.matching.specs.Lines.{line, Substitutions}

-- the line of the candidate's step by the rule r
abbrev pub line_for : Candidate → Rule → Bool → Bool → Option Line
line_for c r w z = line (model c.vocabulary.now) r c.step.now c.goal c.first c.second w z

-- the line of the candidate's step by its own rule, with the answers that are so of the formulas that it substitutes in
abbrev pub HasLine : Candidate → Option Line → Type 0
HasLine c l = (w z : Bool) × Substitutions (model c.vocabulary.now) c.rule c.step.now c.goal c.first w z × (l ≡ line_for c c.rule w z)
