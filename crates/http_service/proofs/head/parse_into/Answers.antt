use Rattle.std.proofs.Common.{List, map, ap, subst, length, Ok, Err}
use Rattle.std.proofs.lemmas.Result.{err_from_is_err_and}
use Rattle.httparse.specs.declared.spans.HeaderSpan.{HeaderSpan}
use Rattle.httparse.specs.Spans.{span_bytes, header_bytes}
use Rattle.http_service.specs.reading.Parses.{MakesHead}
use Rattle.http_service.proofs.HeadLemmas.{refused, found, not_made}
use Rattle.http_service.proofs.head.parse_into.Goals as goal

pub returns-in_err-head-in-Ok-Complete : goal.returns-in_err-head-in-Ok-Complete
returns-in_err-head-in-Ok-Complete c =
    let is = err_from_is_err_and c.from_residual.result c.from_residual.ensures.1 in
    let at = rw c.in-Ok-Complete.field-0-is at c.in-Ok-Complete.ensures.complete in
    let used = λ (hs : List HeaderSpan). MakesHead (span_bytes c.args.octets.now c.in-Ok-Complete.spans.method)
    (span_bytes c.args.octets.now c.in-Ok-Complete.spans.path) c.in-Ok-Complete.spans.version (map (header_bytes c.args.octets.now) hs)
    (Err c.in_err-head-in-Ok-Complete.field-0.0) in
    rw (is.1, is.2) (not_made c.args.octets.now c.parse_request.new.headers c.in-Ok-Complete.spans c.in_err-head-in-Ok-Complete.field-0.0 at
    (subst used c.split_at.ensures.front c.in_err-head-in-Ok-Complete.ensures))

pub returns-in_ok-head-in-Ok-Complete : goal.returns-in_ok-head-in-Ok-Complete
returns-in_ok-head-in-Ok-Complete c =
    let at = rw c.in-Ok-Complete.field-0-is at c.in-Ok-Complete.ensures.complete in
    let used = λ (hs : List HeaderSpan). MakesHead (span_bytes c.args.octets.now c.in-Ok-Complete.spans.method)
    (span_bytes c.args.octets.now c.in-Ok-Complete.spans.path) c.in-Ok-Complete.spans.version (map (header_bytes c.args.octets.now) hs) (Ok c.in_ok-head-in-Ok-Complete.head) in
    found c.args.octets.now c.parse_request.new.headers c.in-Ok-Complete.spans c.in_ok-head-in-Ok-Complete.head at
    (subst used c.split_at.ensures.front c.in_ok-head-in-Ok-Complete.ensures)

pub returns-in-Err : goal.returns-in-Err
returns-in-Err c = refused c.args.octets.now (length c.args.fields.now) c.in-Err.field-0 c.requires c.in-Err.ensures.invalid (λ is. c.in-Err.ensures.too_many (ap Err is))
