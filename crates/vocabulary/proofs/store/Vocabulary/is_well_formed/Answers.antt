use Rattle.std.proofs.Common.{vec_items, arith, refl}
use lib.ListN.{length-map}
use Rattle.formulas.specs.Records.{sort_of}
use Rattle.vocabulary.specs.Lists.{stored_shape}
use Rattle.vocabulary.proofs.Views.{stored}
use Rattle.vocabulary.proofs.store.Vocabulary.is_well_formed.Goals as goal

pub returns : goal.returns
returns c =
    let v = c.args.self.now in
    record {
      answer = refl;
      formed = (stored v).well_formed;
      limited = record {
        few_types = omega (arith, length-map (vec_items v.types) sort_of);
        few_variables = omega arith;
        few_sets = omega arith;
        few_formulas = omega (arith, length-map (vec_items v.formulas) stored_shape);
        light = λ n. ((stored v).weighed n).1;
        shallow = λ n. ((stored v).measured n).1;
      };
    }
