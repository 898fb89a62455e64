-- A command that is written reads as the same command.
use Rattle.std.proofs.Common.{◌≡◌, ℕ, ◌+◌, ◌-◌, ◌*◌, ◌^◌, ◌<◌, ◌≤◌, Bool, true, false, ◌&&◌, eqb, List, [], ◌∷◌, ◌++◌, map, length, Some, decimal, sym, refl, ap, ◌∙◌, append-nil, arith, rules, lt-ltb, ne_eqb}
use lib.ListN.{length-map}
use Rattle.std.specs.Option.{option_map}
use Rattle.std.specs.Char.{is_ascii_digit}
use Rattle.std.specs.Str.{all_ascii_digits, bytes_eq}
use Rattle.std.proofs.lemmas.Str.Parse.{IsNumeralModel, numerals_by_fold, tells_all_ascii_digits}
use Rattle.std.proofs.lemmas.Fmt.{decimal_nonempty, digits_decimal, digits_value-decimal}
use Rattle.commands.specs.declared.command.Call.TheVariants as calls
use Rattle.commands.specs.declared.command.Command.TheVariants as commands
use Rattle.commands.specs.declared.command.HoldCall.TheVariants.{Preview, Lift, Withdraw}
use Rattle.commands.specs.Verbs.{Carrier, Product, Variable, Set, Formula, Free, Substitution, Give, Entry, Predicate, Verb, Book, Use, Call, Step, Check, Hold, WithHold}
use Rattle.commands.specs.Commands.{Request, asks, append, draw, request, request_words, understood, listed, of_verb, list_word, conclude_word, text_of, word_of, spaced, bits, count, with_numbers, step_numbers, Within, ReadsBack, ListsReadBack}
use Rattle.commands.specs.Words.{Bytes, words, lengthen, read_digits, bounded, number, numbers, both, all_numbers}
use Rattle.commands.proofs.Splitting.{chosen}
use Rattle.commands.proofs.Reading.{known}

-- the number that digits write after those of n
abbrev value_after : ℕ → Bytes → ℕ
value_after n [] = n
value_after n (b ∷ bs) = value_after (n * 10 + (b - 48)) bs

own : IsNumeralModel (λ ds. all_ascii_digits ds ≡ true) (value_after 0)
own = numerals_by_fold _ tells_all_ascii_digits value_after (search rules)

both_true : (s t : Bool) → (s && t) ≡ true → (s ≡ true) × (t ≡ true)
both_true true t e = (refl, e)
both_true false t e = cc

digits_read : (n : ℕ) (ds : Bytes) → all_ascii_digits ds ≡ true → read_digits n ds ≡ Some (value_after n ds)
digits_read n [] e = refl
digits_read n (d ∷ ds) e =
    let parts = both_true (is_ascii_digit d) (all_ascii_digits ds) e in
    chosen _ true _ _ parts.0 ∙ digits_read (n * 10 + (d - 48)) ds parts.1

some_digits : (bits n : ℕ) (ds : Bytes) → 0 < length ds → read_digits 0 ds ≡ Some n → n < 2 ^ bits → number bits ds ≡ Some n
some_digits bits n [] l e h = absurd (omega arith)
some_digits bits n (d ∷ ds) l e h = ap (bounded bits) e ∙ chosen _ true _ _ (lt-ltb n (2 ^ bits) h)

number_written : (bits n : ℕ) → n < 2 ^ bits → n < 2 ^ 64 → number bits (decimal n) ≡ Some n
number_written bits n h small =
    some_digits bits n (decimal n) (decimal_nonempty n small) (digits_read 0 (decimal n) (digits_decimal own n small) ∙ ap (λ v. Some v) (digits_value-decimal own n small)) h

-- bytes that are no spaces
abbrev Solid : Bytes → Type 0
Solid [] = Unit {0}
Solid (b ∷ bs) = (eqb b 32 ≡ false) × Solid bs

-- a text that is empty or begins with a space
abbrev Apart : Bytes → Type 0
Apart [] = Unit {0}
Apart (b ∷ bs) = eqb b 32 ≡ true

word_then : (b : ℕ) (w rest : Bytes) → Solid (b ∷ w) → Apart rest → words ((b ∷ w) ++ rest) ≡ (b ∷ w) ∷ words rest
word_then b [] [] s a = chosen _ false _ _ s.0
word_then b [] (c ∷ rest) s a = chosen _ false _ _ s.0 ∙ chosen _ true _ _ a
word_then b (c ∷ w) rest s a = chosen _ false _ _ s.0 ∙ chosen _ false _ _ s.1.0 ∙ ap (lengthen b) (word_then c w rest s.1 a)

space_no_digit : (d : ℕ) → is_ascii_digit d ≡ true → d ≡ 32 → ⊥
space_no_digit d t e = let z : true ≡ false = sym t ∙ ap is_ascii_digit e in let n : ◌≡◌ {A = ℕ} 0 1 = cc in omega arith

solid_digits : (ds : Bytes) → all_ascii_digits ds ≡ true → Solid ds
solid_digits [] e = tt
solid_digits (d ∷ ds) e =
    let parts = both_true (is_ascii_digit d) (all_ascii_digits ds) e in
    (ne_eqb d 32 (λ e. space_no_digit d parts.0 e), solid_digits ds parts.1)

-- the words of numbers that are written
abbrev Small : List ℕ → Type 0
Small [] = Unit {0}
Small (n ∷ ns) = (n < 2 ^ 64) × Small ns

spaced_apart : (ns : List ℕ) → Apart (spaced ns)
spaced_apart [] = tt
spaced_apart (n ∷ []) = refl
spaced_apart (n ∷ m ∷ ns) = refl

digits_then : (ds rest : Bytes) → 0 < length ds → Solid ds → Apart rest → words (ds ++ rest) ≡ ds ∷ words rest
digits_then [] rest l s a = absurd (omega arith)
digits_then (d ∷ ds) rest l s a = word_then d ds rest s a

decimal_then : (n : ℕ) (rest : Bytes) → n < 2 ^ 64 → Apart rest → words (decimal n ++ rest) ≡ decimal n ∷ words rest
decimal_then n rest h a = digits_then (decimal n) rest (decimal_nonempty n h) (solid_digits (decimal n) (digits_decimal own n h)) a

spaced_words : (ns : List ℕ) → Small ns → words (spaced ns) ≡ map decimal ns
spaced_words [] s = refl
spaced_words (n ∷ []) s = ap words (sym (append-nil (decimal n))) ∙ decimal_then n [] s.0 tt
spaced_words (n ∷ m ∷ ns) s = decimal_then n (spaced (m ∷ ns)) s.0 (spaced_apart (m ∷ ns)) ∙ ap (λ l. decimal n ∷ l) (spaced_words (m ∷ ns) s.1)

numbers_written : (bits : ℕ) (ns : List ℕ) → Within bits ns → Small ns → numbers bits (length ns) (map decimal ns) ≡ Some ns
numbers_written bits [] h s = refl
numbers_written bits (n ∷ ns) h s =
    ap (λ r. both r (numbers bits (length ns) (map decimal ns))) (number_written bits n h.0 s.0) ∙ ap (both (Some n)) (numbers_written bits ns h.1 s.1)

some_word : (v : Verb) → 0 < length (word_of v)
some_word Book = omega arith
some_word Use = omega arith
some_word (Call Carrier) = omega arith
some_word (Call Product) = omega arith
some_word (Call Variable) = omega arith
some_word (Call Set) = omega arith
some_word (Call Formula) = omega arith
some_word (Call Free) = omega arith
some_word (Call Substitution) = omega arith
some_word (Call Give) = omega arith
some_word (Call Entry) = omega arith
some_word (Call Predicate) = omega arith
some_word Step = omega arith
some_word Check = omega arith
some_word Hold = omega arith
some_word (WithHold Preview) = omega arith
some_word (WithHold Lift) = omega arith
some_word (WithHold Withdraw) = omega arith

solid_word : (v : Verb) → Solid (word_of v)
solid_word Book = search rules
solid_word Use = search rules
solid_word (Call Carrier) = search rules
solid_word (Call Product) = search rules
solid_word (Call Variable) = search rules
solid_word (Call Set) = search rules
solid_word (Call Formula) = search rules
solid_word (Call Free) = search rules
solid_word (Call Substitution) = search rules
solid_word (Call Give) = search rules
solid_word (Call Entry) = search rules
solid_word (Call Predicate) = search rules
solid_word Step = search rules
solid_word Check = search rules
solid_word Hold = search rules
solid_word (WithHold Preview) = search rules
solid_word (WithHold Lift) = search rules
solid_word (WithHold Withdraw) = search rules

text_words : (w : Bytes) (ns : List ℕ) → 0 < length w → Solid w → Small ns → words (w ++ spaced ns) ≡ w ∷ map decimal ns
text_words w ns l h s = digits_then w (spaced ns) l h (spaced_apart ns) ∙ ap (λ ws. w ∷ ws) (spaced_words ns s)

first_read : (v : Verb) (ns : List ℕ) → request (text_of v ns) ≡ request_words (words (text_of v ns))
first_read Book ns = refl
first_read Use ns = refl
first_read (Call Carrier) ns = refl
first_read (Call Product) ns = refl
first_read (Call Variable) ns = refl
first_read (Call Set) ns = refl
first_read (Call Formula) ns = refl
first_read (Call Free) ns = refl
first_read (Call Substitution) ns = refl
first_read (Call Give) ns = refl
first_read (Call Entry) ns = refl
first_read (Call Predicate) ns = refl
first_read Step ns = refl
first_read Check ns = refl
first_read Hold ns = refl
first_read (WithHold Preview) ns = refl
first_read (WithHold Lift) ns = refl
first_read (WithHold Withdraw) ns = refl

no_list : (v : Verb) → (bytes_eq (word_of v) list_word ≡ false) × (bytes_eq (word_of v) conclude_word ≡ false)
no_list Book = (refl, refl)
no_list Use = (refl, refl)
no_list (Call Carrier) = (refl, refl)
no_list (Call Product) = (refl, refl)
no_list (Call Variable) = (refl, refl)
no_list (Call Set) = (refl, refl)
no_list (Call Formula) = (refl, refl)
no_list (Call Free) = (refl, refl)
no_list (Call Substitution) = (refl, refl)
no_list (Call Give) = (refl, refl)
no_list (Call Entry) = (refl, refl)
no_list (Call Predicate) = (refl, refl)
no_list Step = (refl, refl)
no_list Check = (refl, refl)
no_list Hold = (refl, refl)
no_list (WithHold Preview) = (refl, refl)
no_list (WithHold Lift) = (refl, refl)
no_list (WithHold Withdraw) = (refl, refl)

few_bits : (v : Verb) → 2 ^ bits v ≤ 2 ^ 64
few_bits Book = omega arith
few_bits Use = omega arith
few_bits (Call v) = omega arith
few_bits Step = omega arith
few_bits Check = omega arith
few_bits Hold = omega arith
few_bits (WithHold d) = omega arith

small : (k : ℕ) (ns : List ℕ) → 2 ^ k ≤ 2 ^ 64 → Within k ns → Small ns
small k [] l h = tt
small k (n ∷ ns) l h = (omega (arith, h.0), small k ns l h.1)

read_verb : (v : Verb) (ns : List ℕ) → length ns ≡ count v → Within (bits v) ns → request (text_of v ns) ≡ asks (with_numbers v ns)
read_verb v ns l h =
    let s = small (bits v) ns (few_bits v) h in
    first_read v ns
    ∙ ap request_words (text_words (word_of v) ns (some_word v) (solid_word v) s)
    ∙ chosen _ false _ _ (no_list v).0
    ∙ chosen _ false _ _ (no_list v).1
    ∙ ap (λ o. understood (of_verb o (map decimal ns))) (known v)
    ∙ ap (λ k. understood (option_map (with_numbers v) (numbers (bits v) k (map decimal ns)))) (sym l)
    ∙ ap (λ r. understood (option_map (with_numbers v) r)) (numbers_written (bits v) ns h s)

pub reads_back : ReadsBack
reads_back (commands.Book n) h = read_verb Book (n ∷ []) refl h
reads_back (commands.Use k) h = read_verb Use (k ∷ []) refl h
reads_back (commands.Call calls.Carrier) h = read_verb (Call Carrier) [] refl h
reads_back (commands.Call (calls.Product s t)) h = read_verb (Call Product) (s ∷ t ∷ []) refl h
reads_back (commands.Call (calls.Variable t)) h = read_verb (Call Variable) (t ∷ []) refl h
reads_back (commands.Call (calls.Set t)) h = read_verb (Call Set) (t ∷ []) refl h
reads_back (commands.Call (calls.Formula k p q)) h = read_verb (Call Formula) (k ∷ p ∷ q ∷ []) refl h
reads_back (commands.Call (calls.Free x n)) h = read_verb (Call Free) (x ∷ n ∷ []) refl h
reads_back (commands.Call (calls.Substitution q p x e)) h = read_verb (Call Substitution) (q ∷ p ∷ x ∷ e ∷ []) refl h
reads_back (commands.Call (calls.Give p)) h = read_verb (Call Give) (p ∷ []) refl h
reads_back (commands.Call (calls.Entry e)) h = read_verb (Call Entry) (e ∷ []) refl h
reads_back (commands.Call (calls.Predicate p)) h = read_verb (Call Predicate) (p ∷ []) refl h
reads_back (commands.Step x) h = read_verb Step (step_numbers x) refl h
reads_back commands.Check h = read_verb Check [] refl h
reads_back (commands.Hold e) h = read_verb Hold (e ∷ []) refl h
reads_back (commands.HoldCall d k) h = read_verb (WithHold d) (k ∷ []) refl h

all_written : (asking : List ℕ → Request) (ns : List ℕ) → Within 16 ns → Small ns → listed asking (all_numbers (map decimal ns)) ≡ asking ns
all_written asking ns h s =
    ap (λ k. listed asking (numbers 16 k (map decimal ns))) (length-map ns decimal) ∙ ap (listed asking) (numbers_written 16 ns h s)

pub lists_read_back : ListsReadBack
lists_read_back ns h =
    let s = small 16 ns (omega arith) h in (
      ap request_words (text_words list_word ns (omega arith) (search rules) s) ∙ all_written append ns h s,
      ap request_words (text_words conclude_word ns (omega arith) (search rules) s) ∙ all_written draw ns h s,
    )
