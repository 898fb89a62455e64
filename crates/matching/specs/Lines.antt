-- The line of the table that a step has, and when some context fits it.
use Rattle.std.specs.Prelude.{ℕ, Bool, true, false, not, ◌&&◌, T, ◌↔◌, List, [], ◌∷◌, Some, None, Option, ◌==◌, if◌then◌else◌, slice_index_or}
use Rattle.logic.specs.Formulas.{Vocabulary, free, IsSubstitution}
use Rattle.logic.specs.Deciding.{is_predicate}
use Rattle.logic.specs.Meanings.{Sequent as Seq}
use Rattle.logic.specs.Rules.{◌⊢◌}
use Rattle.logic.specs.declared.rule.Rule.{Rule}
use Rattle.logic.specs.declared.rule.Rule.TheVariants.{Hyp, Mon, Cut, FalseL, FalseR, NotL, NotR, AndL, AndR, OrL, OrR, ImpL, ImpR, TrueR, EqvL, EqvR, AllL, AllR, XstL, XstR, Eql, EqLR, EqRL, PairL, PairR}
use Rattle.formulas.specs.declared.kinds.Kind.TheVariants.{False, True, Not, And, Or, Implies, Iff, ForAll, Exists, Equal}
use Rattle.calculus.specs.declared.step.Step.{Step}
use Rattle.matching.specs.declared.side.SideFormulas.{SideFormulas}
use Rattle.matching.specs.declared.side.SideFormulas.TheVariants.{Nothing, One, Two}
use Rattle.matching.specs.declared.line.Line.{Line}
use Rattle.matching.specs.Reading.{is, has_kind, has_number, number_of, first_operand, second_operand, equates_pairs}
use Rattle.matching.specs.Sets.{formulas, has_side, same_context, absent}

-- a row of the table for a step: whether its goals and arguments are those of the rule, and the line that they then have
pub record Row : Type 0 where
  pub matches : Bool
  pub line : Line

abbrev pub row_of : Bool → SideFormulas → SideFormulas → SideFormulas → Row
row_of matches conclusion first second = record { matches = matches; line = record { conclusion = conclusion; first = first; second = second; fresh = None } }

-- a row whose variable x must not be free in H
abbrev pub fresh_row : ℕ → Bool → SideFormulas → SideFormulas → Row
fresh_row x matches conclusion first = record { matches = matches; line = record { conclusion = conclusion; first = first; second = Nothing; fresh = Some x } }

-- the line, where the step has it
abbrev pub taken : Row → Option Line
taken r = if r.matches then Some r.line else None

-- what w and z say for the rules that substitute an expression for a variable
abbrev pub Substitutions : Vocabulary → Rule → Step → ℕ → ℕ → Bool → Bool → Type 0
Substitutions v Hyp s g p w z = Unit {0}
Substitutions v Mon s g p w z = Unit {0}
Substitutions v Cut s g p w z = Unit {0}
Substitutions v FalseL s g p w z = Unit {0}
Substitutions v FalseR s g p w z = Unit {0}
Substitutions v NotL s g p w z = Unit {0}
Substitutions v NotR s g p w z = Unit {0}
Substitutions v AndL s g p w z = Unit {0}
Substitutions v AndR s g p w z = Unit {0}
Substitutions v OrL s g p w z = Unit {0}
Substitutions v OrR s g p w z = Unit {0}
Substitutions v ImpL s g p w z = Unit {0}
Substitutions v ImpR s g p w z = Unit {0}
Substitutions v TrueR s g p w z = Unit {0}
Substitutions v EqvL s g p w z = Unit {0}
Substitutions v EqvR s g p w z = Unit {0}
Substitutions v AllL s g p w z = T w ↔ IsSubstitution v s.c (first_operand v s.a) s.b (second_operand v s.a)
Substitutions v AllR s g p w z = Unit {0}
Substitutions v XstL s g p w z = Unit {0}
Substitutions v XstR s g p w z = T w ↔ IsSubstitution v p (first_operand v g) s.b (second_operand v g)
Substitutions v Eql s g p w z = Unit {0}
Substitutions v EqLR s g p w z = (T w ↔ IsSubstitution v p s.b (second_operand v s.a) s.c) × (T z ↔ IsSubstitution v g s.b (first_operand v s.a) s.c)
Substitutions v EqRL s g p w z = (T w ↔ IsSubstitution v p s.b (first_operand v s.a) s.c) × (T z ↔ IsSubstitution v g s.b (second_operand v s.a) s.c)
Substitutions v PairL s g p w z = Unit {0}
Substitutions v PairR s g p w z = Unit {0}

-- the row of the step s, whose goal is g and whose premises have the goals p and q; w and z are as in Substitutions
abbrev pub row : Vocabulary → Rule → Step → ℕ → ℕ → ℕ → Bool → Bool → Row
row v Hyp s g p q w z = row_of true (One g) Nothing Nothing
row v Mon s g p q w z = row_of false Nothing Nothing Nothing
row v Cut s g p q w z = row_of (q == g) Nothing Nothing (One p)
row v FalseL s g p q w z = row_of false Nothing Nothing Nothing
row v FalseR s g p q w z = row_of (is v q Not p 0 && is v g False 0 0) Nothing Nothing Nothing
row v NotL s g p q w z = row_of (has_number v Not g 0 && is v s.a Not p 0) (One s.a) (One (number_of v Not g 0)) Nothing
row v NotR s g p q w z = row_of (has_kind v g Not && is v p False 0 0) Nothing (One (first_operand v g)) Nothing
row v AndL s g p q w z = row_of (has_kind v s.a And && p == g) (One s.a) (Two (first_operand v s.a) (second_operand v s.a)) Nothing
row v AndR s g p q w z = row_of (is v g And p q) Nothing Nothing Nothing
row v OrL s g p q w z = row_of (has_kind v s.a Or && (p == g && q == g)) (One s.a) (One (first_operand v s.a)) (One (second_operand v s.a))
row v OrR s g p q w z =
    row_of (has_kind v g Or && (has_number v Not (first_operand v g) 0 && p == second_operand v g)) Nothing (One (number_of v Not (first_operand v g) 0)) Nothing
row v ImpL s g p q w z =
    row_of (has_kind v s.a Implies && p == g) (Two (first_operand v s.a) s.a) (Two (first_operand v s.a) (second_operand v s.a)) Nothing
row v ImpR s g p q w z = row_of (has_kind v g Implies && p == second_operand v g) Nothing (One (first_operand v g)) Nothing
row v TrueR s g p q w z = row_of (is v g True 0 0) Nothing Nothing Nothing
row v EqvL s g p q w z = row_of (has_kind v s.a Iff && (has_number v Implies x y && (has_number v Implies y x && p == g)))
    (One s.a) (Two (number_of v Implies x y) (number_of v Implies y x)) Nothing
  where
    x : ℕ
    x = first_operand v s.a

    y : ℕ
    y = second_operand v s.a
row v EqvR s g p q w z =
    row_of (has_kind v g Iff && (is v p Implies (first_operand v g) (second_operand v g) && is v q Implies (second_operand v g) (first_operand v g))) Nothing Nothing Nothing
row v AllL s g p q w z = row_of (has_kind v s.a ForAll && (w && p == g)) (One s.a) (Two s.a s.c) Nothing
row v AllR s g p q w z = fresh_row (first_operand v g) (has_kind v g ForAll && p == second_operand v g) Nothing Nothing
row v XstL s g p q w z =
    fresh_row (first_operand v s.a) (has_kind v s.a Exists && (not (free v (first_operand v s.a) g) && p == g)) (One s.a) (One (second_operand v s.a))
row v XstR s g p q w z = row_of (has_kind v g Exists && w) Nothing Nothing Nothing
row v Eql s g p q w z = row_of (has_kind v g Equal && first_operand v g == second_operand v g) Nothing Nothing Nothing
row v EqLR s g p q w z = row_of (has_kind v s.a Equal && (is_predicate v s.c && (w && z))) (One s.a) (One s.a) Nothing
row v EqRL s g p q w z = row_of (has_kind v s.a Equal && (is_predicate v s.c && (w && z))) (One s.a) (One s.a) Nothing
row v PairL s g p q w z = row_of (equates_pairs v s.a && (has_number v Equal e g' && (has_number v Equal f h && p == g)))
    (One s.a) (Two (number_of v Equal e g') (number_of v Equal f h)) Nothing
  where
    e : ℕ
    e = first_operand v (first_operand v s.a)

    f : ℕ
    f = second_operand v (first_operand v s.a)

    g' : ℕ
    g' = first_operand v (second_operand v s.a)

    h : ℕ
    h = second_operand v (second_operand v s.a)
row v PairR s g p q w z =
    row_of (equates_pairs v g && (is v p Equal (first_operand v (first_operand v g)) (first_operand v (second_operand v g)) && is v q Equal (second_operand v (first_operand v g)) (second_operand v (second_operand v g)))) Nothing Nothing Nothing

-- the line of the step, where its goals and arguments are those of the rule
abbrev pub line : Vocabulary → Rule → Step → ℕ → ℕ → ℕ → Bool → Bool → Option Line
line v r s g p q w z = taken (row v r s g p q w z)

-- each sequent has its side formulas, and all can have one context
abbrev pub contexts_agree : Line → Seq → List Seq → Bool
contexts_agree l s [] = has_side l.conclusion s.hypotheses
contexts_agree l s (p ∷ []) =
    (has_side l.conclusion s.hypotheses && has_side l.first p.hypotheses) && same_context l.conclusion s.hypotheses l.first p.hypotheses
contexts_agree l s (p ∷ q ∷ []) = ((has_side l.conclusion s.hypotheses && has_side l.first p.hypotheses) && has_side l.second q.hypotheses) &&
    ((same_context l.conclusion s.hypotheses l.first p.hypotheses && same_context l.conclusion s.hypotheses l.second q.hypotheses) &&
    same_context l.first p.hypotheses l.second q.hypotheses)
contexts_agree l s (p ∷ q ∷ r ∷ ps) = false

-- the parts of the premises and of the conclusion that the rule names
abbrev pub above : Line → List Seq → List Seq
above l [] = []
above l (p ∷ []) = (formulas l.first ⊢ p.goal) ∷ []
above l (p ∷ q ∷ []) = (formulas l.first ⊢ p.goal) ∷ (formulas l.second ⊢ q.goal) ∷ []
above l (p ∷ q ∷ r ∷ ps) = []

abbrev pub below : Line → Seq → Seq
below l s = formulas l.conclusion ⊢ s.goal

-- the goal of a premise, 0 where there is none
abbrev pub goal_at : List Seq → ℕ → ℕ
goal_at ps i = (slice_index_or ps i (record { hypotheses = []; goal = 0 })).goal

-- x is free in none of the hypotheses beside the side formulas
abbrev pub absent_from_all : Vocabulary → ℕ → Line → Seq → List Seq → Bool
absent_from_all v x l s [] = absent v x l.conclusion s.hypotheses
absent_from_all v x l s (p ∷ []) = absent v x l.conclusion s.hypotheses && absent v x l.first p.hypotheses
absent_from_all v x l s (p ∷ q ∷ []) = (absent v x l.conclusion s.hypotheses && absent v x l.first p.hypotheses) && absent v x l.second q.hypotheses
absent_from_all v x l s (p ∷ q ∷ r ∷ ps) = false

abbrev pub fresh_absent : Vocabulary → Option ℕ → Line → Seq → List Seq → Bool
fresh_absent v None l s ps = true
fresh_absent v (Some x) l s ps = absent_from_all v x l s ps

abbrev pub fresh_variables : Option ℕ → List ℕ
fresh_variables None = []
fresh_variables (Some x) = x ∷ []

-- some context fits the line
abbrev pub line_fits : Vocabulary → Line → Seq → List Seq → Bool
line_fits v l s ps = contexts_agree l s ps && fresh_absent v l.fresh l s ps
