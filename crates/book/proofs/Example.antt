-- The run reckoned by hand is a run.
use Rattle.std.proofs.Common.{◌≡◌, ℕ, ◌≤◌, List, [], ◌∷◌, length, Ok, sym, refl, arith}
use Rattle.logic.specs.Examples.{example}
use Rattle.logic.specs.Formulas.{Vocabulary, node, variable_type, sort, ask, descend, weight, depth}
use Rattle.logic.specs.Deciding.{type_of}
use Rattle.logic.specs.Growing.{empty_vocabulary}
use Rattle.formulas.specs.declared.calls.Call.{Call}
use Rattle.vocabulary.specs.Calls.{called}
use Rattle.questions.specs.Example.{entered, example_calls}
use Rattle.calculus.specs.declared.step.Step.{Step}
use Rattle.calculus.specs.Theories.{Meaning}
use Rattle.calculus.specs.Derivations.{RightDerivation, root}
use Rattle.entries.specs.Concluding.{row}
use Rattle.book.specs.Books.{Model, new_book, with_vocabulary, give, hold, withdraw}
use Rattle.book.specs.Concluding.{conclude}
use Rattle.book.specs.Runs.{Run}
use Rattle.book.specs.Law.{Trace}
use Rattle.book.specs.Example.{entering, example_answers, worked_root, own, worked_calls, WorkedRun}

-- the calls answer these numbers
abbrev Answers : Vocabulary → List Call → List ℕ → Type 0
Answers v [] ns = Unit {0}
Answers v (c ∷ cs) [] = ⊥
Answers v (c ∷ cs) (n ∷ ns) = (Ok n ≡ (called v c).answer) × Answers (called v c).after cs ns

enters_all : (m : Meaning) (number : ℕ) (cs : List Call) (ns : List ℕ) (t : Trace) (b : Model) → Run m number t b → Answers b.vocabulary cs ns →
    Run m number (entering cs ns t) (with_vocabulary b (entered b.vocabulary cs))
enters_all m number [] ns t b run h = run
enters_all m number (c ∷ cs) [] t b run h = absurd h
enters_all m number (c ∷ cs) (n ∷ ns) t b run (h, k) = enters_all m number cs ns _ (with_vocabulary b (called b.vocabulary c).after) (b, run, (h, refl)) k

answers : Answers empty_vocabulary example_calls example_answers
unfolding node variable_type sort ask descend weight depth type_of
answers = (refl, (refl, (refl, (refl, (refl, (refl, (refl, (refl, (refl, (refl, (refl, (refl, (refl, (refl, (refl, (refl, (refl, (refl, (refl, (refl, (refl, (refl, (refl, tt)))))))))))))))))))))))

abbrev cites : List ℕ
cites = 0 ∷ 1 ∷ []

-- the book after each call that changes it
abbrev b₀ : Model
b₀ = record { number = 7; vocabulary = example; entries = [] }

abbrev b₁ : Model
b₁ = (give b₀ 4).after

abbrev b₂ : Model
b₂ = (give b₁ 6).after

abbrev b₃ : Model
b₃ = (conclude b₂ (Ok worked_root) cites).after

abbrev b₄ : Model
b₄ = (hold b₃ 1).after

abbrev b₅ : Model
b₅ = (withdraw b₄ own).after

module _ (m : Meaning) (xs : List Step) (hs : List ℕ) (right : RightDerivation m example xs hs) (is : root xs hs ≡ worked_root) where
  first : Run m 7 (entering example_calls example_answers []) b₀
  unfolding node variable_type sort ask descend weight depth type_of
  first = enters_all m 7 example_calls example_answers [] (new_book 7) refl answers

  pub worked : (b : Model) × Run m 7 (worked_calls xs hs) b
  unfolding node row
  worked =
      let few : length cites ≤ 16 = omega arith in (
        b₅,
        (
          b₅,
          (
            b₅,
            (
              b₅,
              (
                b₅,
                (
                  b₄,
                  (
                    b₄,
                    (
                      b₄,
                      (
                        b₄,
                        (
                          b₄,
                          (
                            b₄,
                            (
                              b₃,
                              (
                                b₃,
                                (
                                  b₂,
                                  (b₁, (b₀, (b₀, first, (refl, refl)), (refl, refl)), (refl, refl)),
                                  (Ok worked_root, (few, right, sym is), (refl, refl)),
                                ),
                                (refl, refl),
                              ),
                              (refl, refl),
                            ),
                            (refl, refl),
                          ),
                          (refl, refl),
                        ),
                        (refl, refl),
                      ),
                      (Ok worked_root, (few, right, sym is), (refl, refl)),
                    ),
                    (refl, refl),
                  ),
                  (refl, refl),
                ),
                (refl, refl),
              ),
              (refl, refl),
            ),
            (refl, refl),
          ),
          (refl, refl),
        ),
      )

pub worked_run : (m : Meaning) → WorkedRun m
worked_run m xs hs right is = worked m xs hs right is
