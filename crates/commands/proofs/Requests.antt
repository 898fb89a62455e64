-- What a line asks, and the numbers that it has.
use Rattle.std.proofs.Common.{◌≡◌, ℕ, true, false, eqb, List, [], ◌∷◌, Some, None, Option, sym, refl, subst}
use Rattle.std.specs.Str.{bytes_eq}
use Rattle.commands.specs.declared.command.Command.{Command}
use Rattle.commands.specs.declared.command.Line.TheVariants as lines
use Rattle.commands.specs.Commands.{Request, silent, not_understood, asks, append, draw, request, request_words, line_of, list_word, conclude_word, listed, list_line, understood, command}
use Rattle.commands.specs.Words.{Bytes, words, all_numbers, or_none, numbers_after}
use Rattle.commands.proofs.Splitting.{chosen, by_test}

-- a line of numbers, the numbers left out
pub append_line : (o : Option (List ℕ)) → list_line lines.Hypotheses o ≡ line_of (listed append o)
append_line None = refl
append_line (Some ns) = refl

pub draw_line : (o : Option (List ℕ)) → list_line lines.Conclude o ≡ line_of (listed draw o)
draw_line None = refl
draw_line (Some ns) = refl

-- q has the numbers ns, if it has any
abbrev pub Has : Request → List ℕ → Type 0
Has silent ns = Unit {0}
Has not_understood ns = Unit {0}
Has (asks c) ns = Unit {0}
Has (append ms) ns = ns ≡ ms
Has (draw ms) ns = ns ≡ ms

of_append : (o : Option (List ℕ)) → Has (listed append o) (or_none o)
of_append None = tt
of_append (Some ms) = refl

of_draw : (o : Option (List ℕ)) → Has (listed draw o) (or_none o)
of_draw None = tt
of_draw (Some ms) = refl

of_command : (o : Option Command) (ns : List ℕ) → Has (understood o) ns
of_command None ns = tt
of_command (Some c) ns = tt

of_words : (ws : List Bytes) → Has (request_words ws) (numbers_after ws)
of_words [] = tt
of_words (w ∷ ws) =
    let ns = or_none (all_numbers ws) in
    by_test (bytes_eq w list_word)
    (λ t. subst (λ q. Has q ns) (sym (chosen _ true _ _ t)) (of_append (all_numbers ws)))
    (λ t. subst (λ q. Has q ns) (sym (chosen _ false _ _ t)) (by_test (bytes_eq w conclude_word)
    (λ u. subst (λ q. Has q ns) (sym (chosen _ true _ _ u)) (of_draw (all_numbers ws)))
    (λ u. subst (λ q. Has q ns) (sym (chosen _ false _ _ u)) (of_command (command w ws) ns))))

-- a line of numbers has those after its first word
pub has_numbers : (line : Bytes) → Has (request line) (numbers_after (words line))
has_numbers [] = tt
has_numbers (b ∷ bs) =
    let ns = numbers_after (words (b ∷ bs)) in
    by_test (eqb b 35)
    (λ t. subst (λ q. Has q ns) (sym (chosen _ true _ _ t)) tt)
    (λ t. subst (λ q. Has q ns) (sym (chosen _ false _ _ t)) (of_words (words (b ∷ bs))))
