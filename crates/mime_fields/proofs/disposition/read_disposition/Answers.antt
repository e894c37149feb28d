use Rattle.std.proofs.Common.{◌∙◌}
use Rattle.std.specs.Prelude.{codes}
use Rattle.mime_fields.specs.reading.MimeLexemes.{mime_lexemes}
use Rattle.header_tokens.proofs.ClosingLemmas.{tell_all}
use Rattle.mime_fields.proofs.ParameterLemmas.{has_parameter, has_front}
use Rattle.mime_fields.proofs.disposition.read_disposition.Goals as goal

pub next_piece-requires : goal.next_piece-requires
next_piece-requires c = tell_all c.as_slice.result.now c.args.text.now (c.as_slice.ensures.value ∙ c.in_ok-closed.ensures)

pub returns : goal.returns
returns c =
    let t = c.args.text.now in
    let first = c.next_piece.result.0.now in
    let more = c.next_piece.result.1 in
    let b = c.next_piece.ensures.piece in
    record {
      kind = (mime_lexemes first, has_front t first more b, c.in_ok-first_token.ensures);
      extended_octets = c.in_ok-octets.octets;
      has_extended = has_parameter (codes "filename*") t first more c.in_ok-octets.octets b c.in_ok-octets.ensures;
      extended = c.in_ok-extended.ensures;
      file = has_parameter (codes "filename") t first more c.in_ok-parameter.field-0 b c.in_ok-parameter.ensures;
    }
