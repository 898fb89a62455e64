-- The meaning of a theory with one rule, number 100: ⊤ follows from anything.
use Rattle.std.specs.Prelude.{◌&&◌, T, length, ◌==◌}
use Rattle.formulas.specs.declared.kinds.Kind.TheVariants.{True}
use Rattle.formulas.specs.Records.{entry, has_record}
use Rattle.calculus.specs.Theories.{Meaning}

abbrev pub truth_rule : Meaning
truth_rule = record {
  known = λ r. (r == 100);
  arity = λ r. 0;
  instance = λ v x s ps. T ((x.rule == 100 && length ps == 0) && has_record v s.goal (entry True 0 0));
}
