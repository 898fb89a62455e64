-- Every run keeps the law.
use Rattle.std.proofs.Common.{ℕ, List, [], ◌∷◌, map, Result, sym, refl, subst, subst₂, arith}
use Rattle.logic.proofs.Entering.{others_enter_well}
use Rattle.calculus.specs.Theories.{Meaning, Sound}
use Rattle.book.specs.Books.{Model, new_book, Outcome, enter, give, hold, lift, withdraw}
use Rattle.book.specs.Concluding.{conclude}
use Rattle.book.specs.Runs.{Event, enters, gives, concludes, holds, previews, lifts, withdraws, asks_entry, asks_predicate, Comes, Does, Run}
use Rattle.book.specs.Law.{KeepsTheLaw}
use Rattle.book.proofs.Effects.{nothing, effect, Effects}
use Rattle.book.proofs.Reading.{Inv, law}
use Rattle.book.proofs.Steps.{idle, step_give, step_hold, step_lift, step_withdraw}
use Rattle.book.proofs.Accepting.{step_conclude}
use Rattle.book.proofs.Growing.{step_enter}
use Rattle.book.proofs.Traces.{law_of_calls}

begun : (number : ℕ) → Inv [] (new_book number)
begun number = record {
  told = refl;
  formed = others_enter_well.0;
  few = omega arith;
  static = record {
    given_in = λ e p h. absurd h;
    given_out = λ e lt. absurd (omega arith);
    concluded_in = λ e cites h. absurd h;
    concluded_out = λ e lt. absurd (omega arith);
    reached_in = λ e p h. absurd h;
    reached_out = λ e lt. absurd (omega arith);
    own = λ e lt. absurd (omega arith);
    rules = λ e lt. absurd (omega arith);
    follows = λ e lt. absurd (omega arith);
    known = λ e lt. absurd (omega arith);
    clean = λ e r h. absurd h;
  };
  states = record { withdrawn_in = λ r h. absurd h; held_in = λ r h. absurd h; given_state = λ e lt. absurd (omega arith); concluded_state = λ e lt. absurd (omega arith); fallen_in = λ e lt. absurd (omega arith) };
}

-- an outcome is put for an answer and a book
comes : {A B : Type 0} (call : Result A B → Event) (ds : Effects) (o : Outcome A B) (answer : Result A B) (b' : Model) → Comes o answer b' →
    Inv (effect (call o.answer) ∷ ds) o.after → Inv (effect (call answer) ∷ ds) b'
comes call ds o answer b' (p, q) inv = subst₂ (λ a c. Inv (effect (call a) ∷ ds) c) (sym p) (sym q) inv

module _ (m : Meaning) (sound : Sound m) where
  step : (ds : Effects) (b : Model) → Inv ds b → (x : Event) (b' : Model) → Does m b x b' → Inv (effect x ∷ ds) b'
  step ds b inv (enters c answer) b' h = comes (enters c) ds (enter b c) answer b' h (step_enter ds b inv c)
  step ds b inv (gives p answer) b' h = comes (gives p) ds (give b p) answer b' h (step_give ds b inv p)
  step ds b inv (concludes xs hs cites answer) b' (verdict, judged, h) =
      comes (concludes xs hs cites) ds (conclude b verdict cites) answer b' h (step_conclude m sound ds b inv xs hs cites verdict judged)
  step ds b inv (holds e answer) b' h = comes (holds e) ds (hold b e) answer b' h (step_hold ds b inv e)
  step ds b inv (previews h answer) b' (p, q) = subst (Inv (nothing ∷ ds)) (sym q) (idle ds b inv)
  step ds b inv (lifts h answer) b' c = comes (lifts h) ds (lift b h) answer b' c (step_lift ds b inv h)
  step ds b inv (withdraws h answer) b' c = comes (withdraws h) ds (withdraw b h) answer b' c (step_withdraw ds b inv h)
  step ds b inv (asks_entry e answer) b' (p, q) = subst (Inv (nothing ∷ ds)) (sym q) (idle ds b inv)
  step ds b inv (asks_predicate p answer) b' (r, q) = subst (Inv (nothing ∷ ds)) (sym q) (idle ds b inv)

  kept : (number : ℕ) (calls : List Event) (b : Model) → Run m number calls b → Inv (map effect calls) b
  kept number [] b e = subst (Inv []) (sym e) (begun number)
  kept number (x ∷ calls) b (before, run, does) = step (map effect calls) before (kept number calls before run) x b does

  pub keeps_the_law : KeepsTheLaw m
  keeps_the_law number calls b run = law_of_calls calls b (law (map effect calls) b (kept number calls b run))
