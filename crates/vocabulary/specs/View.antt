-- What is kept in memory, as the vocabulary that the logic speaks of.
use Rattle.std.specs.Prelude.{vec_items}
use Rattle.logic.specs.Formulas as logic
use Rattle.vocabulary.specs.declared.store.Vocabulary.{Vocabulary}
use Rattle.vocabulary.specs.Lists.{view}

abbrev pub model : Vocabulary → logic.Vocabulary
model v = view (vec_items v.types) (vec_items v.variables) (vec_items v.set_names) (vec_items v.formulas)
