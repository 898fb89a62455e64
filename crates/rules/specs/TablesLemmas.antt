-- The table of the rules: numbers and rules, and how many premises each takes.
use Rattle.std.specs.Prelude.{◌≡◌, ℕ, zero, suc, ◌-◌, ◌≤◌, true, leb, List, [], ◌∷◌, length, nat_le, slice_index, slice_index_or, refl}
use Rattle.std.proofs.Common.{sym, ◌∙◌, ap, arith, leb-true}
use Rattle.std.proofs.lemmas.Bool.{and_parts}
use Rattle.std.proofs.lemmas.List.Elements.{length_all_zip}
use Rattle.std.specs.List.{list_all}
use Rattle.logic.specs.Formulas.{Vocabulary}
use Rattle.logic.specs.Meanings.{Sequent as Seq}
use Rattle.logic.specs.Rules.{Made, Form, hyp, mon, cut, false_l, false_r, not_l, not_r, and_l, and_r, or_l, or_r, imp_l, imp_r, true_r, eqv_l, eqv_r, all_l, all_r, xst_l, xst_r, eql, eq_lr, eq_rl, pair_l, pair_r}
use Rattle.logic.specs.declared.rule.Rule.{Rule}
use Rattle.logic.specs.declared.rule.Rule.TheVariants.{Hyp, Mon, Cut, FalseL, FalseR, NotL, NotR, AndL, AndR, OrL, OrR, ImpL, ImpR, TrueR, EqvL, EqvR, AllL, AllR, XstL, XstR, Eql, EqLR, EqRL, PairL, PairR}
use Rattle.rules.specs.Tables.{arities, arity, TableRight}
use Rattle.logic.specs.Numbers.{number}

small : (xs : List ℕ) → list_all (λ n. leb n 2) xs ≡ true → (k : ℕ) → slice_index xs k ≤ 2
small [] h k = omega arith
small (x ∷ xs) h zero = let d = (and_parts (nat_le x 2) (list_all (λ n. leb n 2) xs) h).0 in omega (arith, leb-true)
small (x ∷ xs) h (suc k) = small xs (and_parts (nat_le x 2) (list_all (λ n. leb n 2) xs) h).1 k

-- no rule takes more than two premises
pub few : (k : ℕ) → slice_index arities k ≤ 2
few k = small arities refl k

-- a rule is known by its number
numbered : ℕ → Rule
numbered n = slice_index_or (Hyp ∷ Mon ∷ Cut ∷ FalseL ∷ FalseR ∷ NotL ∷ NotR ∷ AndL ∷ AndR ∷ OrL ∷ OrR ∷ ImpL ∷ ImpR ∷ TrueR ∷ EqvL ∷ EqvR ∷
    AllL ∷ AllR ∷ XstL ∷ XstR ∷ Eql ∷ EqLR ∷ EqRL ∷ PairL ∷ PairR ∷ []) (n - 1) Hyp

numbered_back : (r : Rule) → numbered (number r) ≡ r
unfolding numbered
numbered_back Hyp = refl
numbered_back Mon = refl
numbered_back Cut = refl
numbered_back FalseL = refl
numbered_back FalseR = refl
numbered_back NotL = refl
numbered_back NotR = refl
numbered_back AndL = refl
numbered_back AndR = refl
numbered_back OrL = refl
numbered_back OrR = refl
numbered_back ImpL = refl
numbered_back ImpR = refl
numbered_back TrueR = refl
numbered_back EqvL = refl
numbered_back EqvR = refl
numbered_back AllL = refl
numbered_back AllR = refl
numbered_back XstL = refl
numbered_back XstR = refl
numbered_back Eql = refl
numbered_back EqLR = refl
numbered_back EqRL = refl
numbered_back PairL = refl
numbered_back PairR = refl

pub one_number : (r q : Rule) → number r ≡ number q → r ≡ q
one_number r q e = sym (numbered_back r) ∙ (ap numbered e ∙ numbered_back q)

-- each line has as many premises as the table says
premises_counted : {v : Vocabulary} {a b c : ℕ} {r : Rule} {fresh : List ℕ} {above : List Seq} {below : Seq} → Form v a b c r fresh above below → length above ≡ arity r
premises_counted hyp = refl
premises_counted mon = refl
premises_counted cut = refl
premises_counted (false_l _) = refl
premises_counted (false_r _ _) = refl
premises_counted (not_l _ _) = refl
premises_counted (not_r _ _) = refl
premises_counted (and_l _) = refl
premises_counted (and_r _) = refl
premises_counted (or_l _) = refl
premises_counted (or_r _ _) = refl
premises_counted (imp_l _) = refl
premises_counted (imp_r _) = refl
premises_counted (true_r _) = refl
premises_counted (eqv_l _ _ _) = refl
premises_counted (eqv_r _ _ _) = refl
premises_counted (all_l _ _) = refl
premises_counted (all_r _) = refl
premises_counted (xst_l _ _) = refl
premises_counted (xst_r _ _) = refl
premises_counted (eql _) = refl
premises_counted (eq_lr _ _ _ _) = refl
premises_counted (eq_rl _ _ _ _) = refl
premises_counted (pair_l _ _ _ _ _) = refl
premises_counted (pair_r _ _ _ _ _) = refl

pub table_right : TableRight
table_right v r a b c premises s (H, fresh, above, below, form, absent, (_, made)) = sym (length_all_zip (Made H) above premises made) ∙ premises_counted form
