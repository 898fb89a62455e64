-- A run reckoned by hand, over the vocabulary's worked example.
use Rattle.std.specs.Prelude.{◌≡◌, ℕ, List, [], ◌∷◌, Some, None, Ok, Err}
use Rattle.logic.specs.Examples.{example}
use Rattle.logic.specs.Meanings.{Sequent as Seq}
use Rattle.formulas.specs.declared.calls.Call.{Call}
use Rattle.questions.specs.Example.{example_calls}
use Rattle.calculus.specs.declared.step.Step.{Step}
use Rattle.calculus.specs.Theories.{Meaning}
use Rattle.calculus.specs.Derivations.{RightDerivation, root}
use Rattle.states.specs.declared.entry.Origin.TheVariants.{Given, Concluded}
use Rattle.states.specs.declared.entry.State.TheVariants.{Standing, Held, Fallen}
use Rattle.states.specs.declared.refusal.Refusal.TheVariants.{NotAPredicate, CitationHeld, NotAGivenRule, NotHeld}
use Rattle.book.specs.declared.hold.Hold.{Hold}
use Rattle.book.specs.Books.{Model}
use Rattle.book.specs.Holds.{send_back}
use Rattle.book.specs.Runs.{enters, gives, concludes, holds, previews, lifts, withdraws, asks_entry, asks_predicate, Run}
use Rattle.book.specs.Law.{Trace}

-- calls on the vocabulary, each granted with a number
abbrev pub entering : List Call → List ℕ → Trace → Trace
entering [] ns before = before
entering (c ∷ cs) [] before = before
entering (c ∷ cs) (n ∷ ns) before = entering cs ns (enters c (Ok n) ∷ before)

-- a carrier; variables m, c, d; sets senior, reduce; and the formulas 0 to 16
abbrev pub example_answers : List ℕ
example_answers = 0 ∷ 0 ∷ 1 ∷ 2 ∷ 0 ∷ 1 ∷ 0 ∷ 1 ∷ 2 ∷ 3 ∷ 4 ∷ 5 ∷ 6 ∷ 7 ∷ 8 ∷ 9 ∷ 10 ∷ 11 ∷ 12 ∷ 13 ∷ 14 ∷ 15 ∷ 16 ∷ []

-- formula 7 from the formulas 4 and 6
abbrev pub worked_root : Seq
worked_root = record { hypotheses = 4 ∷ 6 ∷ []; goal = 7 }

-- the hold on entry 1 of book 7, and one of another book
abbrev pub own : Hold
own = record { book = 7; entry = 1 }

abbrev pub foreign : Hold
foreign = record { book = 8; entry = 1 }

-- Two rules are given, a conclusion is drawn from both, and the second rule is withdrawn (newest first).
abbrev pub worked_calls : List Step → List ℕ → Trace
worked_calls xs hs =
    asks_predicate 7 (Ok None) ∷
    asks_predicate 4 (Ok (Some 0)) ∷
    asks_entry 2 (Ok (record { origin = Concluded; predicate = 7; state = Fallen })) ∷
    asks_entry 0 (Ok (record { origin = Given; predicate = 4; state = Standing })) ∷
    withdraws own (Ok (1, 2)) ∷
    previews own (Ok (1, 2)) ∷
    concludes xs hs (0 ∷ 1 ∷ []) (Err (CitationHeld 1)) ∷
    lifts foreign (Err (send_back foreign NotHeld)) ∷
    asks_predicate 7 (Ok (Some 2)) ∷
    asks_entry 1 (Ok (record { origin = Given; predicate = 6; state = Held })) ∷
    holds 1 (Ok own) ∷
    holds 2 (Err NotAGivenRule) ∷
    concludes xs hs (0 ∷ 1 ∷ []) (Ok 2) ∷
    gives 6 (Ok 1) ∷
    gives 4 (Ok 0) ∷
    gives 5 (Err NotAPredicate) ∷
    entering example_calls example_answers []

-- it is a run of book 7, with any right derivation of that root
abbrev pub WorkedRun : Meaning → Type 0
WorkedRun m = (xs : List Step) (hs : List ℕ) → RightDerivation m example xs hs → root xs hs ≡ worked_root → (b : Model) × Run m 7 (worked_calls xs hs) b
