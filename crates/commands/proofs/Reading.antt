-- A word is read as the verb that it is, and the numbers after it make the call or the command.
use Rattle.std.proofs.Common.{◌≡◌, ℕ, ◌+◌, false, List, [], ◌∷◌, length, get_or, drop, Some, None, Option, sym, refl, ap, ap₂, ◌∙◌, arith}
use Rattle.std.proofs.lemmas.List.{drop_more, drop_all}
use Rattle.std.specs.Option.{option_map}
use Rattle.commands.specs.declared.command.Command.{Command}
use Rattle.commands.specs.declared.command.Command.TheVariants as commands
use Rattle.commands.specs.declared.command.HoldCall.TheVariants.{Preview, Lift, Withdraw}
use Rattle.commands.specs.Verbs.{Carrier, Product, Variable, Set, Formula, Free, Substitution, Give, Entry, Predicate, Verb}
use Rattle.commands.specs.Verbs as verb
use Rattle.commands.specs.Commands.{word_of, verb_named, of_verb, command, command_of, step_with, with_numbers, line_of, list_word, conclude_word, understood, request_words}
use Rattle.commands.specs.Words.{Bytes}
use Rattle.std.specs.Str.{bytes_eq}
use Rattle.std.proofs.lemmas.Slice.Eq.{bytes_eq-Decides}
use Rattle.commands.proofs.Splitting.{chosen, by_test}

-- from place i on, w has the bytes of u
abbrev Spelled : Bytes → Bytes → ℕ → Type 0
Spelled [] w i = Unit {0}
Spelled (b ∷ u) w i = (get_or w i 0 ≡ b) × Spelled u w (i + 1)

spelled_from : (u w : Bytes) (i : ℕ) → length w ≡ i + length u → Spelled u w i → drop i w ≡ u
spelled_from [] w i l s = drop_all i w (omega arith)
spelled_from (b ∷ u) w i l s = drop_more w i 0 (omega arith) ∙ ap₂ ◌∷◌ s.0 (spelled_from u w (i + 1) (omega arith) s.1)

pub spelled : (u w : Bytes) → length w ≡ length u → Spelled u w 0 → w ≡ u
spelled u w l s = spelled_from u w 0 (omega arith) s

-- each verb is found by its word
pub known : (v : Verb) → verb_named (word_of v) ≡ Some v
known verb.Book = refl
known verb.Use = refl
known (verb.Call Carrier) = refl
known (verb.Call Product) = refl
known (verb.Call Variable) = refl
known (verb.Call Set) = refl
known (verb.Call Formula) = refl
known (verb.Call Free) = refl
known (verb.Call Substitution) = refl
known (verb.Call Give) = refl
known (verb.Call Entry) = refl
known (verb.Call Predicate) = refl
known verb.Step = refl
known verb.Check = refl
known verb.Hold = refl
known (verb.WithHold Preview) = refl
known (verb.WithHold Lift) = refl
known (verb.WithHold Withdraw) = refl

pub reads_command : (v : Verb) (w : Bytes) (ws : List Bytes) (r : Option Command) → w ≡ word_of v → r ≡ command_of v ws → r ≡ command w ws
reads_command v w ws r e f = f ∙ sym (ap (λ u. command u ws) e ∙ ap (λ o. of_verb o ws) (known v))

pub step_command : (o : Option (List ℕ)) → option_map (with_numbers verb.Step) o ≡ option_map commands.Step (option_map step_with o)
step_command None = refl
step_command (Some ns) = refl

-- a line that begins with no list's word
pub other_line : (w : Bytes) (ws : List Bytes) → (w ≡ list_word → ⊥) → (w ≡ conclude_word → ⊥) → line_of (understood (command w ws)) ≡ line_of (request_words (w ∷ ws))
other_line w ws f g =
    sym (ap line_of (by_test (bytes_eq w list_word)
    (λ t. absurd (f ((bytes_eq-Decides w list_word).0 t)))
    (λ t. chosen _ false _ _ t ∙ by_test (bytes_eq w conclude_word) (λ u. absurd (g ((bytes_eq-Decides w conclude_word).0 u))) (λ u. chosen _ false _ _ u))))
