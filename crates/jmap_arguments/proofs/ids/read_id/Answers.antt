use Rattle.std.proofs.Common.{None, Some, decimal}
use Rattle.std.proofs.lemmas.Str.Pattern.{strip_prefix_char}
use Rattle.jmap_arguments.proofs.IdLemmas.{named_by, digits_of}
use Rattle.jmap_arguments.proofs.ids.read_id.Goals as goal

pub returns-in_err-digits-clause-none : goal.returns-in_err-digits-clause-none
returns-in_err-digits-clause-none c = λ none n fits is. strip_prefix_char c.args.letter c.args.text.now None c.in_err-digits.ensures.cases c.requires (decimal n) is

pub returns-clause-some : goal.returns-clause-some
returns-clause-some c =
    let cut = strip_prefix_char c.args.letter c.args.text.now (Some c.in_ok-digits.digits) c.in_ok-digits.ensures.cases c.requires in
    named_by c.args.letter c.args.text.now c.in_ok-digits.digits.now c.decimal_number.result cut c.decimal_number.ensures.some

pub returns-clause-none : goal.returns-clause-none
returns-clause-none c = λ none n fits is.
    let cut = strip_prefix_char c.args.letter c.args.text.now (Some c.in_ok-digits.digits) c.in_ok-digits.ensures.cases c.requires in
    c.decimal_number.ensures.none none n fits (digits_of c.args.letter n c.args.text.now c.in_ok-digits.digits.now cut is)
