use Rattle.std.proofs.Common.{length, arith}
use Rattle.http_service.proofs.HeadLemmas.{section_room}
use Rattle.http_service.proofs.chunk_lines.parse_trailer.Goals as goal

pub parse_fields-requires : goal.parse_fields-requires
parse_fields-requires c = section_room c.args.octets.now c.end_in.result (length c.deref_mut.result.now) c.end_in.ensures
    (omega (arith, c.in_ok-fields.ensures, c.deref_mut.ensures.len))
