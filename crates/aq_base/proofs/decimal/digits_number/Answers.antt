use Rattle.std.proofs.Common.{arith, rules, ◌*◌, ◌+◌, inr, get_or}
use Rattle.std.specs.Char.{IsAsciiDigit}
use Rattle.aq_base.proofs.Decimals.{value_more, too_large}
use Rattle.aq_base.proofs.decimal.digits_number.Goals as goal

pub returns-in_err-checked_mul-clause-none : goal.returns-in_err-checked_mul-clause-none
returns-in_err-checked_mul-clause-none c = λ _.
    let digit : IsAsciiDigit (get_or c.args.text.now c.loop-byte.byte-index 0) = search rules in
    let more = value_more c.args.text.now c.loop-byte.byte-index c.loop-byte-test.true digit in
    inr (too_large c.args.text.now (c.loop-byte.byte-index + 1) (c.loop-byte.number * 10)
    (omega (arith, c.in_err-checked_mul.ensures {u = tt})) (omega (arith, more)))

pub returns-in_err-number-clause-none : goal.returns-in_err-number-clause-none
returns-in_err-number-clause-none c = λ _.
    let digit : IsAsciiDigit (get_or c.args.text.now c.loop-byte.byte-index 0) = search rules in
    let more = value_more c.args.text.now c.loop-byte.byte-index c.loop-byte-test.true digit in
    inr (too_large c.args.text.now (c.loop-byte.byte-index + 1) (c.in_ok-checked_mul.field-0 + c.from-digit.result)
    (omega (arith, c.in_err-number.ensures {u = tt})) (omega (arith, more, c.in_ok-checked_mul.ensures)))
