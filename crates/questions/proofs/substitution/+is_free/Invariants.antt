use Rattle.questions.proofs.substitution.+is_free.Given as goal

abbrev pub decreases-is_free : goal.decreases-is_free
decreases-is_free l = l.n
