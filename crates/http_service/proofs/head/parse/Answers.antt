use Rattle.std.proofs.Common.{length, arith}
use Rattle.http_service.proofs.HeadLemmas.{request_room}
use Rattle.http_service.proofs.head.parse.Goals as goal

pub parse_into-requires : goal.parse_into-requires
parse_into-requires c = request_room c.args.octets.now c.end_in.result (length c.deref_mut.result.now) c.end_in.ensures
    (omega (arith, c.in_ok-fields.ensures, c.deref_mut.ensures.len))
