-- Each call on the vocabulary keeps what agrees between the effects and the book.
use Rattle.std.proofs.Common.{◌≡◌, ℕ, ◌∷◌, sym, refl, ap, ◌∙◌, subst, inl, inr}
use Rattle.logic.specs.Formulas.{Vocabulary, WellFormed}
use Rattle.book.specs.Books.{Model, with_vocabulary, enter}
use Rattle.book.specs.Runs.{enters}
use Rattle.book.specs.Law.{names}
use Rattle.book.proofs.Effects.{named, effect, Effects}
use Rattle.formulas.specs.declared.calls.Call.{Call}
use Rattle.vocabulary.specs.Calls as vocabulary
use Rattle.vocabulary.specs.Calls.{called, EnteringLaw}
use Rattle.vocabulary.proofs.Calling.{entering_law}
use Rattle.book.proofs.Static.{Growing, no_growth, static_step, no_fresh}
use Rattle.book.proofs.EntryStates.{states_quiet}
use Rattle.book.proofs.Reading.{Inv}
use Rattle.book.proofs.Steps.{idle}
use Rattle.book.proofs.Naming.{next, with_new, Settled, settled, names_new, names_same, no_fewer}

-- an effect that describes the vocabulary afterwards, and gives, concludes, holds and withdraws nothing
module _ (ds : Effects) (b : Model) (inv : Inv ds b) (c : Call) where
  abbrev v : Vocabulary
  v = b.vocabulary

  grown : (n : ℕ) (v' : Vocabulary) → Growing v v' → WellFormed v' → names c n v ≡ v' → Inv (named c n ∷ ds) (with_vocabulary b v')
  grown n v' grows formed told = record {
    told = ap (names c n) inv.told ∙ told;
    formed = formed;
    few = inv.few;
    static = static_step (named c n) ds v v' b.entries b.entries grows (λ e lt. (lt, refl, refl, refl))
        (no_fresh (named c n) ds v' b.entries b.entries refl (λ e p h. h) (λ e cites h. h)) inv.static;
    states = states_quiet (named c n) ds b.entries (λ r. (λ h. h, λ h. h)) inv.states;
  }

  abbrev Q : vocabulary.Outcome → Type 0
  Q o = Inv (effect (enters c o.answer) ∷ ds) (with_vocabulary b o.after)

  abbrev Lawful : vocabulary.Outcome → Type 0
  Lawful o = EnteringLaw v c o.answer o.after

  by_outcome : (o : vocabulary.Outcome) → Settled v c o → Lawful o → Q o
  by_outcome o (inl (e, is)) law = subst Q (sym is) (idle ds b inv)
  by_outcome o (inr (inl (n, is))) law =
      let l : Lawful (vocabulary.granted n v) = subst Lawful is law in
      subst Q (sym is) (grown n v (no_growth v) inv.formed (names_same v c n (l.means n refl)))
  by_outcome o (inr (inr is)) law =
      let l : Lawful (vocabulary.granted (next v c) (with_new v c)) = subst Lawful is law in
      subst Q (sym is) (grown (next v c) (with_new v c)
      (record { more = no_fewer v c; means = λ w n h. l.keeps.meaning_stays w n h; fits = λ w f h. l.keeps.interpretations_stay w f h })
      l.well_formed (names_new v c))

  pub step_enter : Inv (effect (enters c (enter b c).answer) ∷ ds) (enter b c).after
  step_enter = by_outcome (called v c) (settled v c) (entering_law v inv.formed c)
