-- What a refusal carries: its number, its layer and its place.
use Rattle.std.specs.Prelude.{ℕ, Result, List, ◌++◌, codes, decimal}
use Rattle.std.specs.Option.{ok_or}
use Rattle.formulas.specs.Kinds.{kind_numbered}
use Rattle.formulas.specs.declared.kinds.Kind.{Kind}
use Rattle.formulas.specs.declared.refusals.Layer.{Layer}
use Rattle.formulas.specs.declared.refusals.Layer.TheVariants.{Vocabulary, Derivation, Book}
use Rattle.formulas.specs.declared.refusals.Notice.{Notice}
use Rattle.formulas.specs.declared.refusals.Refusal.{Refusal}
use Rattle.formulas.specs.declared.refusals.Refusal.TheVariants.{TypesFull, UnknownType, VariablesFull, SetNamesFull, UnknownKind, WrongOperand, TypesDisagree, TooLarge, FormulasFull}

abbrev numbered : ℕ → Notice
numbered n = record { number = n; layer = Vocabulary; place = 0 }

abbrev pub notice : Refusal → Notice
notice TypesFull = numbered 1
notice UnknownType = numbered 2
notice VariablesFull = numbered 3
notice SetNamesFull = numbered 4
notice UnknownKind = numbered 5
notice WrongOperand = numbered 6
notice TypesDisagree = numbered 7
notice TooLarge = numbered 8
notice FormulasFull = numbered 9

-- the kind that has a number, or that there is none
abbrev pub kind_or_refusal : ℕ → Result Kind Refusal
kind_or_refusal n = ok_or (kind_numbered n) UnknownKind

abbrev pub layer_text : Layer → List ℕ
layer_text Vocabulary = codes "vocabulary"
layer_text Derivation = codes "derivation"
layer_text Book = codes "book"

abbrev pub notice_text : Notice → List ℕ
notice_text n = decimal n.number ++ (codes " " ++ (layer_text n.layer ++ (codes " " ++ decimal n.place)))
