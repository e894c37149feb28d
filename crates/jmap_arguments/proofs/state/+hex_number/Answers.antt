use Rattle.std.proofs.Common.{arith, ◌≡◌, ◌<◌, ◌*◌, ◌+◌, ◌^◌, ◌/◌, ◌%◌, ℕ, suc, length, subst}
use Rattle.jmap_arguments.proofs.HexReading.{hex_none, hex_front, hex_back, hex_joined, hex_below, hex_fits, some_by, none_by}
use Rattle.jmap_arguments.proofs.state.+hex_number.Goals as goal

pub returns-then-is_empty-clause-some : goal.returns-then-is_empty-clause-some
returns-then-is_empty-clause-some t c = hex_none c.args.digits.now (none_by c.args.digits.now c.is_empty.result c.is_empty.ensures c.if-is_empty.true)

pub returns-in_err-number-clause-none : goal.returns-in_err-number-clause-none
returns-in_err-number-clause-none t c = λ none n is.
    let some = some_by c.args.digits.now c.is_empty.result c.is_empty.ensures c.if-is_empty.false in
    c.hex_number.ensures.none c.in_err-number.was (n / 16) (hex_front c.args.digits.now c.split_at.result.0.now n some c.split_at.ensures.front is)

pub returns-in_err-digit-clause-none : goal.returns-in_err-digit-clause-none
returns-in_err-digit-clause-none t c = λ none n is.
    let some = some_by c.args.digits.now c.is_empty.result c.is_empty.ensures c.if-is_empty.false in
    c.digit_value.ensures.none c.in_err-digit.was (n % 16) (omega arith) (hex_back c.args.digits.now c.split_at.result.1.now n some c.split_at.ensures.back is)

pub overflow_mul-result : goal.overflow_mul-result
overflow_mul-result t c =
    let some = some_by c.args.digits.now c.is_empty.result c.is_empty.ensures c.if-is_empty.false in
    let below = hex_below (length c.split_at.result.0.now) c.in_ok-number.number 0 c.in_ok-number.ensures.some.0 (omega arith) in
    let fits = hex_fits (suc (length c.split_at.result.0.now)) (c.in_ok-number.number * 16 + 0) (omega (arith, c.requires, some, c.split_at.ensures.front_len)) below in
    omega (arith, fits)

pub overflow_add-result : goal.overflow_add-result
overflow_add-result t c =
    let some = some_by c.args.digits.now c.is_empty.result c.is_empty.ensures c.if-is_empty.false in
    let below = hex_below (length c.split_at.result.0.now) c.in_ok-number.number c.in_ok-digit.digit c.in_ok-number.ensures.some.0 c.in_ok-digit.ensures.some.0 in
    let fits = hex_fits (suc (length c.split_at.result.0.now)) (c.in_ok-number.number * 16 + c.in_ok-digit.digit)
    (omega (arith, c.requires, some, c.split_at.ensures.front_len)) below in
    omega (arith, fits)

pub returns-clause-some : goal.returns-clause-some
returns-clause-some t c =
    let some = some_by c.args.digits.now c.is_empty.result c.is_empty.ensures c.if-is_empty.false in
    let below = hex_below (length c.split_at.result.0.now) c.in_ok-number.number c.in_ok-digit.digit c.in_ok-number.ensures.some.0 c.in_ok-digit.ensures.some.0 in
    let long : suc (length c.split_at.result.0.now) ≡ length c.args.digits.now = omega (arith, some, c.split_at.ensures.front_len) in (
      subst (λ (k : ℕ). c.in_ok-number.number * 16 + c.in_ok-digit.digit < 16 ^ k) long below,
      hex_joined c.args.digits.now c.split_at.result.0.now c.split_at.result.1.now c.in_ok-number.number c.in_ok-digit.digit some c.split_at.ensures.front
          c.split_at.ensures.back (omega (arith, long)) (omega (arith, some, c.split_at.ensures.back_len)) c.in_ok-number.ensures.some.1 c.in_ok-digit.ensures.some.1
          c.in_ok-digit.ensures.some.0,
    )
