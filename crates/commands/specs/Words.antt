-- The words of a line, and the numbers that words write.
use Rattle.std.specs.Prelude.{ℕ, zero, suc, ◌+◌, ◌-◌, ◌*◌, ◌^◌, cond, List, [], ◌∷◌, length, Some, None, Option, ◌==◌, nat_lt, slice_index}
use Rattle.std.specs.Option.{option_map}
use Rattle.std.specs.Char.{is_ascii_digit}

abbrev pub Bytes : Type 0
Bytes = List ℕ

-- a byte in front of the first word
abbrev pub lengthen : ℕ → List Bytes → List Bytes
lengthen b [] = (b ∷ []) ∷ []
lengthen b (w ∷ ws) = (b ∷ w) ∷ ws

-- the words of b and then the bytes, where b is no space and the words of the bytes are known
abbrev pub begin : ℕ → Bytes → List Bytes → List Bytes
begin b [] ws = (b ∷ []) ∷ ws
begin b (c ∷ cs) ws = cond (c == 32) ((b ∷ []) ∷ ws) (lengthen b ws)

-- the words of a text: its longest runs of bytes that are no spaces
abbrev pub words : Bytes → List Bytes
words [] = []
words (b ∷ bs) = cond (b == 32) (words bs) (begin b bs (words bs))

-- a text without the spaces that it begins with
abbrev pub after_spaces : Bytes → Bytes
after_spaces [] = []
after_spaces (b ∷ bs) = cond (b == 32) (after_spaces bs) (b ∷ bs)

-- how many bytes come before the first space
abbrev pub word_length : Bytes → ℕ
word_length [] = 0
word_length (b ∷ bs) = cond (b == 32) 0 (suc (word_length bs))

-- the number that digits write after the digits of n, if all are digits
abbrev pub read_digits : ℕ → Bytes → Option ℕ
read_digits n [] = Some n
read_digits n (b ∷ bs) = cond (is_ascii_digit b) (read_digits (n * 10 + (b - 48)) bs) None

-- a number of so many bits
abbrev pub bounded : ℕ → Option ℕ → Option ℕ
bounded bits None = None
bounded bits (Some n) = cond (nat_lt n (2 ^ bits)) (Some n) None

-- the number of so many bits that a word writes in decimal
abbrev pub number : ℕ → Bytes → Option ℕ
number bits [] = None
number bits (b ∷ bs) = bounded bits (read_digits 0 (b ∷ bs))

abbrev pub both : Option ℕ → Option (List ℕ) → Option (List ℕ)
both None ns = None
both (Some n) None = None
both (Some n) (Some ns) = Some (n ∷ ns)

-- the numbers that words write, if they are so many and each has so many bits
abbrev pub numbers : ℕ → ℕ → List Bytes → Option (List ℕ)
numbers bits zero [] = Some []
numbers bits zero (w ∷ ws) = None
numbers bits (suc k) [] = None
numbers bits (suc k) (w ∷ ws) = both (number bits w) (numbers bits k ws)

-- the number of so many bits that the only word writes
abbrev pub only_number : ℕ → List Bytes → Option ℕ
only_number bits ws = option_map (λ ns. slice_index ns 0) (numbers bits 1 ws)

-- the numbers of 16 bits that words write, if each writes one
abbrev pub all_numbers : List Bytes → Option (List ℕ)
all_numbers ws = numbers 16 (length ws) ws

abbrev pub or_none : Option (List ℕ) → List ℕ
or_none None = []
or_none (Some ns) = ns

-- the numbers after the first word, if all words after it are numbers
abbrev pub numbers_after : List Bytes → List ℕ
numbers_after [] = []
numbers_after (w ∷ ws) = or_none (all_numbers ws)
