use Rattle.std.proofs.Common.{◌+◌, ◌-◌, ◌*◌, ◌^◌, ◌≤◌, get_or, drop, sym, ap, ◌∙◌, arith, false-eqb}
use Rattle.commands.specs.Words.{bounded}
use Rattle.commands.proofs.Splitting.{digit_more, too_large, some_number}
use Rattle.commands.proofs.words.number.Goals as goal

pub returns-in_err-checked_mul : goal.returns-in_err-checked_mul
returns-in_err-checked_mul c =
    let word = c.args.word.now in
    let n = c.loop-b.n in
    let i = c.loop-b.b-index in
    let large : 2 ^ 32 ≤ n * 10 + (get_or word i 0 - 48) = omega (arith, c.in_err-checked_mul.ensures) in
    c.from_residual.ensures
    ∙ sym (some_number 32 word (omega (arith, false-eqb _ 0 c.if-is_empty.ensures))
    ∙ ap (bounded 32) (sym c.loop-b.invariant.1 ∙ digit_more word n i c.loop-b-test.true (sym c.if-not-is_ascii_digit.ensures.value))
    ∙ too_large 32 (n * 10 + (get_or word i 0 - 48)) (drop (i + 1) word) large)

pub returns-in_err-n : goal.returns-in_err-n
returns-in_err-n c =
    let word = c.args.word.now in
    let n = c.loop-b.n in
    let i = c.loop-b.b-index in
    let large : 2 ^ 32 ≤ n * 10 + (get_or word i 0 - 48) = omega (arith, c.in_err-n.ensures, c.in_ok-checked_mul.ensures) in
    c.from_residual-in_err-n.ensures
    ∙ sym (some_number 32 word (omega (arith, false-eqb _ 0 c.if-is_empty.ensures))
    ∙ ap (bounded 32) (sym c.loop-b.invariant.1 ∙ digit_more word n i c.loop-b-test.true (sym c.if-not-is_ascii_digit.ensures.value))
    ∙ too_large 32 (n * 10 + (get_or word i 0 - 48)) (drop (i + 1) word) large)
