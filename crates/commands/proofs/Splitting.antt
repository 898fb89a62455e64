-- How a text is cut into words, and how digits are read one by one.
use Rattle.std.proofs.Common.{◌≡◌, ℕ, suc, ◌+◌, ◌-◌, ◌*◌, ◌^◌, ◌<◌, ◌≤◌, Bool, true, false, cond, eqb, ltb, not, List, [], ◌∷◌, length, get_or, take, drop, None, sym, refl, ap, ◌∙◌, subst, arith, le-ltb, false-eqb}
use Rattle.std.specs.Char.{is_ascii_digit}
use Rattle.std.specs.List.{position, position_or_len}
use Rattle.std.specs.Option.{unwrap_or}
use Rattle.std.proofs.lemmas.Bool.{ltb-false}
use Rattle.std.proofs.lemmas.List.{drop_more}
use Rattle.std.proofs.lemmas.List.Recursion.{is_position_or_len}
use Rattle.std.proofs.lemmas.List.Sums.{prefix_len-le-length}
use Rattle.commands.specs.Words.{Bytes, lengthen, begin, words, after_spaces, word_length, read_digits, bounded, number}

-- a way that a test chooses
pub chosen : {A : Type 0} (t u : Bool) (x y : A) → t ≡ u → cond t x y ≡ cond u x y
chosen t u x y e = ap (λ v. cond v x y) e

-- the words of a text that begins with a word
begins : (b : ℕ) (bs : Bytes) → eqb b 32 ≡ false → words (b ∷ bs) ≡ begin b bs (words bs)
begins b bs e = chosen _ false _ _ e

longer : (b : ℕ) (bs : Bytes) → eqb b 32 ≡ false → word_length (b ∷ bs) ≡ suc (word_length bs)
longer b bs e = chosen _ false _ _ e

-- a byte and then the rest, cut at its first space
abbrev cut_after : ℕ → Bytes → List Bytes
cut_after b bs = (b ∷ take (word_length bs) bs) ∷ words (drop (word_length bs) bs)

cut_space : (b c : ℕ) (cs : Bytes) → eqb c 32 ≡ true → begin b (c ∷ cs) (words (c ∷ cs)) ≡ cut_after b (c ∷ cs)
cut_space b c cs e = chosen _ true _ _ e ∙ ap (λ k. (b ∷ take k (c ∷ cs)) ∷ words (drop k (c ∷ cs))) (sym (chosen _ true _ _ e))

cut_join : (b c : ℕ) (cs : Bytes) → eqb c 32 ≡ false → begin c cs (words cs) ≡ cut_after c cs → begin b (c ∷ cs) (words (c ∷ cs)) ≡ cut_after b (c ∷ cs)
cut_join b c cs e h =
    chosen _ false _ _ e ∙ ap (lengthen b) (begins c cs e ∙ h) ∙ ap (λ k. (b ∷ take k (c ∷ cs)) ∷ words (drop k (c ∷ cs))) (sym (longer c cs e))

pub by_test : {P : Type 0} (t : Bool) → (t ≡ true → P) → (t ≡ false → P) → P
by_test true f g = f refl
by_test false f g = g refl

cut_more : (b : ℕ) (bs : Bytes) → begin b bs (words bs) ≡ cut_after b bs
cut_more b [] = refl
cut_more b (c ∷ cs) = by_test (eqb c 32) (cut_space b c cs) (λ e. cut_join b c cs e (cut_more c cs))

-- the first word, and what comes after it
abbrev pub Cut : Bytes → Bytes → Type 0
Cut bs text = words bs ≡ take (word_length text) text ∷ words (drop (word_length text) text)

cut_word : (b : ℕ) (bs : Bytes) → eqb b 32 ≡ false → Cut (b ∷ bs) (b ∷ bs)
cut_word b bs e = begins b bs e ∙ cut_more b bs ∙ ap (λ k. take k (b ∷ bs) ∷ words (drop k (b ∷ bs))) (sym (longer b bs e))

pub no_words : (bs : Bytes) → after_spaces bs ≡ [] → words bs ≡ []
no_words [] h = refl
no_words (b ∷ bs) h =
    by_test (eqb b 32)
    (λ e. chosen _ true _ _ e ∙ no_words bs (sym (chosen _ true _ _ e) ∙ h))
    (λ e. let none : ◌≡◌ {A = List ℕ} (b ∷ bs) [] = sym (chosen _ false _ _ e) ∙ h in let z : ◌≡◌ {A = ℕ} 0 1 = cc in absurd (omega arith))

pub first_word : (bs : Bytes) → 0 < length (after_spaces bs) → Cut bs (after_spaces bs)
first_word [] l = absurd (omega arith)
first_word (b ∷ bs) l =
    by_test (eqb b 32)
    (λ e. let same : after_spaces (b ∷ bs) ≡ after_spaces bs = chosen _ true _ _ e in
    subst (Cut (b ∷ bs)) (sym same) (chosen _ true _ _ e ∙ first_word bs (subst (λ t. 0 < length t) same l)))
    (λ e. let same : after_spaces (b ∷ bs) ≡ b ∷ bs = chosen _ false _ _ e in subst (Cut (b ∷ bs)) (sym same) (cut_word b bs e))

-- how far a word goes
word_length_is : (bs : Bytes) → word_length bs ≡ position_or_len (λ b. eqb b 32) bs
word_length_is =
    is_position_or_len word_length (λ b. eqb b 32) refl (λ b bs. let e : suc (word_length bs) ≡ 1 + word_length bs = omega arith in ap (cond (eqb b 32) 0) e)

pub before_space : (bs : Bytes) → unwrap_or (position (λ b. eqb b 32) bs) (length bs) ≡ word_length bs
before_space bs =
    let k = position_or_len (λ b. eqb b 32) bs in
    let within : k ≤ length bs = prefix_len-le-length (λ b. not (eqb b 32)) bs in
    by_test (ltb k (length bs))
    (λ t. ap (λ o. unwrap_or o (length bs)) (chosen _ true _ _ t) ∙ sym (word_length_is bs))
    (λ t. ap (λ o. unwrap_or o (length bs)) (chosen _ false _ _ t) ∙ (let e : length bs ≡ k = omega (arith, ltb-false k (length bs) t) in e) ∙ sym (word_length_is bs))

-- a text is cut before the first space after its first word
pub cut_there : (bs text : Bytes) (k : ℕ) (w rest : Bytes) → text ≡ after_spaces bs → false ≡ eqb (length text) 0 → k ≡ unwrap_or (position (λ b. eqb b 32) text) (length text) → w ≡ take k text → rest ≡ drop k text → words bs ≡ w ∷ words rest
cut_there bs text k w rest e f g h i =
    let some : 0 < length text = omega (arith, false-eqb (length text) 0 f) in
    let cut : Cut bs text = subst (Cut bs) (sym e) (first_word bs (subst (λ t. 0 < length t) e some)) in
    let value : k ≡ word_length text = g ∙ before_space text in
    cc

-- digits
pub digit_more : (bs : Bytes) (n i : ℕ) → i < length bs → is_ascii_digit (get_or bs i 0) ≡ true → read_digits n (drop i bs) ≡ read_digits (n * 10 + (get_or bs i 0 - 48)) (drop (i + 1) bs)
digit_more bs n i l e = ap (read_digits n) (drop_more bs i 0 l) ∙ chosen _ true _ _ e

-- more digits make no smaller number
pub too_large : (bits n : ℕ) (bs : Bytes) → 2 ^ bits ≤ n → bounded bits (read_digits n bs) ≡ None
too_large bits n [] l = chosen _ false _ _ (le-ltb n (2 ^ bits) l)
too_large bits n (b ∷ bs) l =
    by_test (is_ascii_digit b)
    (λ e. ap (bounded bits) (chosen _ true _ _ e) ∙ too_large bits (n * 10 + (b - 48)) bs (omega arith))
    (λ e. ap (bounded bits) (chosen _ false _ _ e))

pub some_number : (bits : ℕ) (bs : Bytes) → 0 < length bs → number bits bs ≡ bounded bits (read_digits 0 bs)
some_number bits [] l = absurd (omega arith)
some_number bits (b ∷ bs) l = refl
