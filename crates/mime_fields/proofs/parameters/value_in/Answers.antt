use Rattle.std.proofs.Common.{length, ap, arith}
use Rattle.mime_fields.proofs.ParameterLemmas.{if_match, no_value, written_value, no_quoted, quoted_value, token_value}
use Rattle.mime_fields.proofs.parameters.value_in.Goals as goal

pub returns-in-Quoted : goal.returns-in-Quoted
returns-in-Quoted c =
    let x = c.in-Quoted.text.now in
    if_match c.quoted_text.result (no_quoted x c.args.raw.now c.in-Quoted.ensures)
    (λ b h. quoted_value x b c.args.raw.now c.in-Quoted.ensures h.0 (λ z. omega (arith, ap length z, h.1))) c.quoted_text.ensures

pub returns-in_ok-copy_of-in-Token : goal.returns-in_ok-copy_of-in-Token
returns-in_ok-copy_of-in-Token c =
    token_value c.in-Token.text.now c.in_ok-copy_of-in-Token.field-0 c.args.raw.now c.in-Token.ensures c.in_ok-copy_of-in-Token.ensures

pub returns-in-Written : goal.returns-in-Written
returns-in-Written c =
    if_match c.written.result (λ e. no_value c.args.raw.now c.in-Written.ensures e)
    (λ b h. written_value c.args.raw.now b c.in-Written.ensures h.0 (λ z. omega (arith, ap length z, h.1))) c.written.ensures
