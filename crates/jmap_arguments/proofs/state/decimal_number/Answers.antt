use Rattle.std.proofs.Common.{◌∙◌, ap, sym}
use Rattle.jmap_arguments.specs.reading.PlainDigits.{is_plain}
use Rattle.jmap_arguments.proofs.PlainReading.{plain-decimal, plain_read, plain_unread}
use Rattle.jmap_arguments.proofs.state.decimal_number.Goals as goal

pub returns-then-not-is_plain-clause-none : goal.returns-then-not-is_plain-clause-none
returns-then-not-is_plain-clause-none c = λ none n fits is.
    cc (c.if-not-is_plain.ensures, ap is_plain (c.as_bytes.ensures.value ∙ is), plain-decimal n fits)

pub returns-in-Ok-clause-some : goal.returns-in-Ok-clause-some
returns-in-Ok-clause-some c =
    plain_read c.args.text.now c.parse.result c.in-Ok.number
    (sym (ap is_plain c.as_bytes.ensures.value) ∙ sym c.is_plain.ensures ∙ c.if-not-is_plain.false) c.parse.ensures.value.0 c.in-Ok.is

pub returns-in-Err-clause-none : goal.returns-in-Err-clause-none
returns-in-Err-clause-none c = λ none n fits is. plain_unread c.args.text.now c.parse.result c.in-Err.field-0 n fits c.parse.ensures.value.0 c.in-Err.is is
