-- What a refusal of a derivation carries: its number, its layer and its place.
use Rattle.std.specs.Prelude.{ℕ}
use Rattle.formulas.specs.declared.refusals.Layer.TheVariants.{Derivation}
use Rattle.formulas.specs.declared.refusals.Notice.{Notice}
use Rattle.calculus.specs.declared.refusal.Fault.{Fault}
use Rattle.calculus.specs.declared.refusal.Fault.TheVariants.{Size, Range, NotASequent, UnknownRule, LatePremise, NoInstance}
use Rattle.calculus.specs.declared.refusal.Refusal.{Refusal}

abbrev pub number : Fault → ℕ
number Size = 20
number Range = 21
number NotASequent = 22
number UnknownRule = 23
number LatePremise = 24
number NoInstance = 25

-- the place is the step, which is 0 for the sizes
abbrev pub notice : Refusal → Notice
notice e = record { number = number e.fault; layer = Derivation; place = e.step }
