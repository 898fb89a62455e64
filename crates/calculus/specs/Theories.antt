-- What a theory is: the rules that it knows, how many premises each takes, and its instances.
use Rattle.std.specs.Prelude.{◌≡◌, ℕ, ◌≤◌, Bool, false, cond, ◌||◌, List, Option, MatchBool}
use Rattle.std.specs.Bool.{then_some}
use Rattle.logic.specs.Formulas.{Vocabulary, WellFormed}
use Rattle.std.specs.List.{AllByRecursion}
use Rattle.logic.specs.Meanings.{Sequent as Seq, Valid}
use Rattle.calculus.specs.declared.step.Step.{Step}

pub record Meaning : Type 1 where
  pub known : ℕ → Bool
  pub arity : ℕ → ℕ
  pub instance : Vocabulary → Step → Seq → List Seq → Type 0

-- how many premises a rule takes, if it is known
abbrev pub premises : Meaning → ℕ → Option ℕ
premises m r = then_some (m.known r) (m.arity r)

-- where all the premises of an instance are valid, so is its sequent
abbrev pub Sound : Meaning → Type 0
Sound m = (w : Vocabulary) → WellFormed w → (x : Step) (s : Seq) (ps : List Seq) → m.instance w x s ps → AllByRecursion (Valid w) ps → Valid w s

-- no rule takes more than two premises; one that is not known takes none and has no instance
pub record Regular (m : Meaning) : Type 0 where
  pub few : (r : ℕ) → m.arity r ≤ 2
  pub none : (r : ℕ) → m.known r ≡ false → m.arity r ≡ 0
  pub never : (w : Vocabulary) (x : Step) (s : Seq) (ps : List Seq) → m.known x.rule ≡ false → m.instance w x s ps → ⊥

-- two theories joined: what the first knows it judges, the rest goes to the second
abbrev pub joined : Meaning → Meaning → Meaning
joined m n = record {
  known = λ r. m.known r || n.known r;
  arity = λ r. cond (m.known r) (m.arity r) (n.arity r);
  instance = λ w x s ps. MatchBool (m.known x.rule) (m.instance w x s ps) (n.instance w x s ps);
}
