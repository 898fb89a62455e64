-- A line is cut at its ending.
use Rattle.std.proofs.Common.{◌≡◌, ℕ, false, ◌||◌, [], ◌∷◌, ◌++◌, length, Some, None, Option, sym, refl, ap, ◌∙◌, arith, length-append}
use Rattle.std.specs.Option.{MatchOption, unwrap_or}
use Rattle.std.specs.Str.{bytes_eq}
use denote.Ref.{Bor}
use Rattle.std.proofs.lemmas.Slice.Eq.{bytes_eq-Decides}
use Rattle.std.proofs.lemmas.List.{append_cancel_right}
use Rattle.commands.specs.Commands.{is_ending, without_ending}
use Rattle.commands.specs.Words.{Bytes}
use Rattle.commands.proofs.Splitting.{chosen, by_test}

not_ending : (bs : Bytes) → (bs ≡ 10 ∷ [] → ⊥) → (bs ≡ 13 ∷ 10 ∷ [] → ⊥) → is_ending bs ≡ false
not_ending bs f g =
    by_test (bytes_eq bs (10 ∷ []))
    (λ t. absurd (f ((bytes_eq-Decides bs (10 ∷ [])).0 t)))
    (λ t. ap (λ v. v || bytes_eq bs (13 ∷ 10 ∷ [])) t
    ∙ by_test (bytes_eq bs (13 ∷ 10 ∷ [])) (λ u. absurd (g ((bytes_eq-Decides bs (13 ∷ 10 ∷ [])).0 u))) (λ u. u))

kept : (b : ℕ) (bs cs : Bytes) → (b ∷ bs ≡ 10 ∷ [] → ⊥) → (b ∷ bs ≡ 13 ∷ 10 ∷ [] → ⊥) → without_ending bs ≡ cs → without_ending (b ∷ bs) ≡ b ∷ cs
kept b bs cs f g h = chosen _ false _ _ (not_ending (b ∷ bs) f g) ∙ ap (λ l. b ∷ l) h

pub no_newline : (bs : Bytes) → ((front : Bytes) → bs ≡ front ++ 10 ∷ [] → ⊥) → bs ≡ without_ending bs
no_newline [] h = refl
no_newline (b ∷ bs) h =
    sym (kept b bs bs (λ e. h [] e) (λ e. h (13 ∷ []) e) (sym (no_newline bs (λ front e. h (b ∷ front) (ap (λ l. b ∷ l) e)))))

pub newline : (bs : Bytes) → ((front : Bytes) → bs ≡ front ++ 13 ∷ [] → ⊥) → without_ending (bs ++ 10 ∷ []) ≡ bs
newline [] h = refl
newline (b ∷ bs) h =
    kept b (bs ++ 10 ∷ []) bs
    (λ e. omega (arith, ap length e, length-append bs (10 ∷ [])))
    (λ e. h [] (append_cancel_right (b ∷ bs) (13 ∷ []) (10 ∷ []) e))
    (newline bs (λ front e. h (b ∷ front) (ap (λ l. b ∷ l) e)))

pub return_newline : (bs : Bytes) → without_ending ((bs ++ 13 ∷ []) ++ 10 ∷ []) ≡ bs
return_newline [] = refl
return_newline (b ∷ bs) =
    kept b ((bs ++ 13 ∷ []) ++ 10 ∷ []) bs
    (λ e. omega (arith, ap length e, length-append (bs ++ 13 ∷ []) (10 ∷ []), length-append bs (13 ∷ [])))
    (λ e. omega (arith, ap length e, length-append (bs ++ 13 ∷ []) (10 ∷ []), length-append bs (13 ∷ [])))
    (return_newline bs)

-- what is left before a newline, a carriage return before it left out
pub without_newline : (line : Bytes) (text : Bor Bytes) (o : Option (Bor Bytes)) → line ≡ text.now ++ 10 ∷ [] → MatchOption o ((front : Bytes) → text.now ≡ front ++ 13 ∷ [] → ⊥) (λ r. text.now ≡ r.now ++ 13 ∷ []) → (unwrap_or o text).now ≡ without_ending line
without_newline line text None e h = sym (ap without_ending e ∙ newline text.now h)
without_newline line text (Some r) e h = sym (ap without_ending (e ∙ ap (λ l. l ++ 10 ∷ []) h) ∙ return_newline r.now)
