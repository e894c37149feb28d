use Rattle.std.proofs.Common.{◌∙◌}
use Rattle.std.specs.Prelude.{codes}
use Rattle.mime_fields.specs.reading.MimeLexemes.{mime_lexemes}
use Rattle.header_tokens.proofs.ClosingLemmas.{tell_all}
use Rattle.mime_fields.proofs.ParameterLemmas.{has_parameter, has_front}
use Rattle.mime_fields.proofs.content_type.read_type.Goals as goal

pub next_piece-requires : goal.next_piece-requires
next_piece-requires c = tell_all c.as_slice.result.now c.args.text.now (c.as_slice.ensures.value ∙ c.in_ok-closed.ensures)

pub returns : goal.returns
returns c =
    let t = c.args.text.now in
    let first = c.next_piece.result.0.now in
    let more = c.next_piece.result.1 in
    let b = c.next_piece.ensures.piece in
    record {
      media = (mime_lexemes first, has_front t first more b, c.in_ok-media_of.ensures);
      boundary = record {
        octets = c.in_ok-boundary.boundary;
        has = has_parameter (codes "boundary") t first more c.in_ok-boundary.boundary b c.in_ok-boundary.ensures;
        value_is = c.in_ok-without_line_ends.ensures;
      };
      charset_octets = c.in_ok-charset_line.charset_line;
      has_charset = record {
        octets = c.in_ok-charset.charset;
        has = has_parameter (codes "charset") t first more c.in_ok-charset.charset b c.in_ok-charset.ensures;
        value_is = c.in_ok-charset_line.ensures;
      };
      charset = c.in_ok-charset_text.ensures;
      name = has_parameter (codes "name") t first more c.in_ok-parameter.field-0 b c.in_ok-parameter.ensures;
    }
