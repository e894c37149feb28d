use Rattle.std.proofs.Common.{length, ap, Err}
use Rattle.http_service.proofs.HeadLemmas.{trailer_refused}
use Rattle.http_service.proofs.chunk_lines.parse_fields.Goals as goal

pub returns-in-Err : goal.returns-in-Err
returns-in-Err c = trailer_refused c.args.octets.now (length c.args.fields.now) c.in-Err.field-0 c.requires c.in-Err.ensures.invalid (λ is. c.in-Err.ensures.too_many (ap Err is))
