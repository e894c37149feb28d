use Rattle.std.proofs.Common.{string_bytes}
use Rattle.jmap_arguments.proofs.HexText.{hex-none, pushed-digit}
use Rattle.jmap_arguments.proofs.state.+push_hex.Goals as goal

pub returns-then-width-eq0 : goal.returns-then-width-eq0
returns-then-width-eq0 t c = hex-none _ _ _ c.if-width-eq0.true

pub returns : goal.returns
returns t c =
    pushed-digit c.push.result (string_bytes c.args.text.now) (string_bytes c.push_hex.new.text) (string_bytes c.push.new.self) _ c.args.width c.args.number c.hex_digit.result
    c.push.ensures.bytes (c.push.ensures.ascii c.hex_digit.ensures.ascii) c.hex_digit.ensures.value c.in_ok-push_hex.ensures c.if-width-eq0.false
