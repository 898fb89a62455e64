use Rattle.questions.proofs.substitution.+replaces.Given as goal

abbrev pub decreases-replaces : goal.decreases-replaces
decreases-replaces l = l.p
