-- Where no entry is held, no citation has a held rule in its support.
use Rattle.std.proofs.Common.{◌≡◌, ℕ, suc, ◌+◌, Bool, true, false, not, cond, nat_lt, length, Some, ◌&&◌, List, [], ◌∷◌, None, position, refl, ◌∙◌, ap, arith}
use Rattle.std.specs.List.{list_any, enumerate_from, position_or_len, prefix_len}
use Rattle.std.proofs.lemmas.Bool.{or_parts, or_from}
use Rattle.std.proofs.lemmas.Bool.Decides.{nat_tests}
use Rattle.states.specs.declared.entry.Entry.{Entry}
use Rattle.states.specs.States.{is_held}
use Rattle.entries.specs.Concluding.{support_held}

and_false : (a b : Bool) → b ≡ false → (a && b) ≡ false
and_false true b e = e
and_false false b e = refl

none_marked : (f : ℕ → Bool) (k : ℕ) (xs : List Entry) → list_any (λ x. is_held x.state) xs ≡ false → list_any (λ (r, x). f r && is_held x.state) (enumerate_from k xs) ≡ false
none_marked f k [] e = refl
none_marked f k (x ∷ xs) e =
    let d = or_parts (is_held x.state) (list_any (λ y. is_held y.state) xs) e in
    or_from (f k && is_held x.state) (list_any (λ (r, y). f r && is_held y.state) (enumerate_from (k + 1) xs)) (and_false (f k) (is_held x.state) d.0) (none_marked f (k + 1) xs d.1)

whole : (test : ℕ → Bool) (ns : List ℕ) → ((n : ℕ) → test n ≡ false) → position_or_len test ns ≡ length ns
whole test [] h = refl
whole test (n ∷ ns) h =
    let rest : prefix_len (λ m. not (test m)) ns ≡ length ns = whole test ns h in
    let more : (1 + prefix_len (λ m. not (test m)) ns) ≡ suc (length ns) = omega arith in
    ap (λ (b : Bool). cond (not b) (1 + prefix_len (λ m. not (test m)) ns) 0) (h n) ∙ more

nowhere : (test : ℕ → Bool) (ns : List ℕ) → ((n : ℕ) → test n ≡ false) → position test ns ≡ None
nowhere test ns h =
    let e : nat_lt (length ns) (length ns) ≡ false = grind (arith, nat_tests) in
    ap (λ (k : ℕ). cond (nat_lt k (length ns)) (Some k) None) (whole test ns h) ∙ ap (λ (b : Bool). cond b (Some (length ns)) None) e

pub none_held : (es : List Entry) (cites : List ℕ) → list_any (λ x. is_held x.state) es ≡ false → position (support_held es) cites ≡ None
none_held es cites e = nowhere (support_held es) cites (λ c. none_marked _ 0 es e)
