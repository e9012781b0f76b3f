use Rattle.std.proofs.Common.{◌≡◌, ℕ, sym, arith, length, take, get_or, List, ap}
use Rattle.std.specs.Str.Parse.{AllDigits, digits_value}
use Rattle.std.proofs.lemmas.List.{take_all}
use Rattle.std.proofs.lemmas.Int.Digits.{digits_more}
use Rattle.std.proofs.lemmas.Bool.{eqb-false}
use Rattle.resp_wire.proofs.Digits.{value_small, not_digits, is_digits_from, more_digits, digit_small, no_digits, all_digits, value_below}
use Rattle.resp_wire.proofs.number.digits_in.Goals as goal

pub overflow_mul-value : goal.overflow_mul-value
overflow_mul-value c = let h = value_small c.args.text.now c.loop-byte.byte-index (omega arith) c.loop-byte.invariant.digits in let e = c.loop-byte.invariant.value in omega arith

pub overflow_add-value : goal.overflow_add-value
overflow_add-value c = let h = value_small c.args.text.now c.loop-byte.byte-index (omega arith) c.loop-byte.invariant.digits in let e = c.loop-byte.invariant.value in omega (arith, c.from.ensures, c.type_inv.text c.loop-byte.byte-index)

pub loop-byte-preserved : goal.loop-byte-preserved
loop-byte-preserved c =
    let r = c.if-not-is_ascii_digit.ensures.cases in
    let b = get_or c.args.text.now c.loop-byte.byte-index 0 in
    record {
      digits = digits_more 10 c.args.text.now c.loop-byte.byte-index c.loop-byte-test.true c.loop-byte.invariant.digits (digit_small b r);
      value = more_digits c.args.text.now c.loop-byte.byte-index c.loop-byte.value c.from.result c.loop-byte-test.true r c.loop-byte.invariant.value c.from.ensures;
    }

pub returns-then-not-is_ascii_digit-clause-value : goal.returns-then-not-is_ascii_digit-clause-value
returns-then-not-is_ascii_digit-clause-value c =
    let r = c.if-not-is_ascii_digit.ensures.cases in
    no_digits c.args.most c.args.text.now (not_digits c.args.most c.args.text.now c.loop-byte.byte-index c.loop-byte-test.true (λ a b. omega (arith, r)))

pub returns-clause-value : goal.returns-clause-value
returns-clause-value c =
    let at_end : c.loop-byte.byte-index ≡ length c.args.text.now = omega arith in
    let whole : take c.loop-byte.byte-index c.args.text.now ≡ c.args.text.now = take_all c.loop-byte.byte-index c.args.text.now (omega arith) in
    let digits : AllDigits 10 c.args.text.now = rw (← whole) c.loop-byte.invariant.digits in
    all_digits c.args.most c.loop-byte.value c.args.text.now (is_digits_from c.args.most c.args.text.now (let ne = eqb-false (length c.args.text.now) 0 (sym c.if-is_empty.ensures) in omega (arith, ne)) (omega arith) digits) (rw c.loop-byte.invariant.value (ap (λ (u : List ℕ). digits_value 10 u) whole))

pub returns-clause-small : goal.returns-clause-small
returns-clause-small c =
    let at_end : c.loop-byte.byte-index ≡ length c.args.text.now = omega arith in
    let whole : take c.loop-byte.byte-index c.args.text.now ≡ c.args.text.now = take_all c.loop-byte.byte-index c.args.text.now (omega arith) in
    let digits : AllDigits 10 c.args.text.now = rw (← whole) c.loop-byte.invariant.digits in
    rw (c.loop-byte.invariant.value, whole) (value_below c.args.most c.args.text.now (omega arith) digits)
