use Rattle.std.proofs.Common.{◌≡◌, ◌∙◌, subst, sym}
use Rattle.imap_types.specs.declared.response.Response.{Response}
use Rattle.imap_types.specs.Spells.{IsSpelling}
use Rattle.imap_grammar.specs.reading.Reading.{response_in}
use Rattle.imap_grammar.proofs.Readings.{if_ok, spelling_read}
use Rattle.imap_grammar.proofs.decoder.decode.Goals as goal

pub returns-clause-spelled : goal.returns-clause-spelled
returns-clause-spelled c =
    let b = c.args.bytes.now in
    if_ok c.response.result (λ (r : Response). r ≡ response_in b) (λ (r : Response). IsSpelling r b)
    (λ r e. subst (λ (v : Response). IsSpelling v b) (sym (e ∙ spelling_read c.requires.0 b c.requires.1)) c.requires.1) c.response.ensures

pub returns-clause-value : goal.returns-clause-value
returns-clause-value c = λ v h.
    let b = c.args.bytes.now in
    if_ok c.response.result (λ (r : Response). r ≡ response_in b) (λ (r : Response). r ≡ v) (λ r e. e ∙ spelling_read v b h) c.response.ensures
