use Rattle.std.proofs.Common.{sym, arith}
use Rattle.http_service.proofs.LineReadingLemmas.{whole_window}
use Rattle.http_service.proofs.line_reading.window.Goals as goal

pub returns-then-octets-lt-MAX_HEAD_OCTETS : goal.returns-then-octets-lt-MAX_HEAD_OCTETS
returns-then-octets-lt-MAX_HEAD_OCTETS c = sym (whole_window c.args.octets.now (omega (arith, c.if-octets-lt-MAX_HEAD_OCTETS.true)))
