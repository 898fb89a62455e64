-- The rules by their numbers.
use Rattle.std.specs.Prelude.{◌≡◌, ℕ, Bool, false, ◌&&◌, MatchResult, Result, nat_le}
use Rattle.logic.specs.declared.rule.Rule.{Rule}
use Rattle.logic.specs.declared.rule.Rule.TheVariants.{Hyp, Mon, Cut, FalseL, FalseR, NotL, NotR, AndL, AndR, OrL, OrR, ImpL, ImpR, TrueR, EqvL, EqvR, AllL, AllR, XstL, XstR, Eql, EqLR, EqRL, PairL, PairR}
use Rattle.logic.specs.declared.rule.UnknownRule.{UnknownRule}

abbrev pub number : Rule → ℕ
number Hyp = 1
number Mon = 2
number Cut = 3
number FalseL = 4
number FalseR = 5
number NotL = 6
number NotR = 7
number AndL = 8
number AndR = 9
number OrL = 10
number OrR = 11
number ImpL = 12
number ImpR = 13
number TrueR = 14
number EqvL = 15
number EqvR = 16
number AllL = 17
number AllR = 18
number XstL = 19
number XstR = 20
number Eql = 21
number EqLR = 22
number EqRL = 23
number PairL = 24
number PairR = 25

-- n is the number of a rule
abbrev pub is_rule : ℕ → Bool
is_rule n = nat_le 1 n && nat_le n 25

-- r is the rule that has the number n, or says that none has
abbrev pub Numbered : ℕ → Result Rule UnknownRule → Type 0
Numbered n r = MatchResult r (λ rule. number rule ≡ n) (λ e. (e.0 ≡ n) × (is_rule n ≡ false))
