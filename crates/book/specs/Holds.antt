-- Holds, and holds that were refused.
use Rattle.std.specs.Prelude.{Ok, Err, Result}
use Rattle.states.specs.declared.refusal.Refusal.{Refusal}
use Rattle.book.specs.declared.hold.Hold.{Hold}
use Rattle.book.specs.declared.hold.Refused.{Refused}
use Rattle.book.specs.declared.hold.RefusedHold.{RefusedHold}

-- the hold that was refused
abbrev pub hold_again : RefusedHold → Hold
hold_again h = h.hold

abbrev pub send_back : Hold → Refusal → Refused
send_back h why = record { refusal = why; hold = record { hold = h } }

-- a refusal sends the hold back
abbrev pub answered : {A : Type 0} → Hold → Result A Refusal → Result A Refused
answered h (Ok x) = Ok x
answered h (Err why) = Err (send_back h why)

-- where it is granted, the answer is the hold
abbrev pub granting : Hold → Result (Unit {0}) Refusal → Result Hold Refusal
granting h (Ok u) = Ok h
granting h (Err why) = Err why
