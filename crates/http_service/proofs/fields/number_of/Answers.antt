use Rattle.text_words.specs.Octets.{is_digit}
use Rattle.http_service.proofs.FieldLemmas.{each_at, digit_range, number_more}
use Rattle.http_service.proofs.fields.number_of.Goals as goal

pub overflow_sub-digit : goal.overflow_sub-digit
overflow_sub-digit c = (digit_range _ (each_at is_digit c.args.digits.now c.loop-digit.digit-index c.requires c.loop-digit-test.true)).0

pub loop-digit-preserved : goal.loop-digit-preserved
loop-digit-preserved c =
    let digit = each_at is_digit c.args.digits.now c.loop-digit.digit-index c.requires c.loop-digit-test.true in
    let next = number_more c.args.digits.now c.loop-digit.digit-index c.loop-digit.number c.loop-digit-test.true digit c.loop-digit.invariant in
    cc (next, c.saturating_mul.ensures, c.saturating_add-number.ensures)
