-- The addresses up to the index gave no stream, and the one at it may give one.
use Rattle.std.proofs.Common.{◌≡◌, None, take, arith}
use Rattle.std.proofs.lemmas.List.{take_all}
use Rattle.std.proofs.lemmas.List.Elements.{All-more}
use Rattle.std.specs.declared.net.socket_addr.SocketAddr.{SocketAddr}
use Rattle.gate_host.proofs.DialingLemmas.{answered}
use Rattle.gate_host.specs.declared.tcp_link.TheConstants.{PATIENCE_SECONDS}
use Rattle.gate_host.proofs.tcp_link.first_answer.Goals as goal

pub returns-in-Some : goal.returns-in-Some
returns-in-Some g c =
    answered (g.D.Dialer.dials c.args.dialer.now) PATIENCE_SECONDS c.args.addresses.now c.loop-address.address-index _ c.in-Some.stream (omega arith) c.loop-address.invariant
    c.in-Some.ensures

pub loop-address-preserved : goal.loop-address-preserved
loop-address-preserved g c =
    All-more (λ (address : SocketAddr). g.D.Dialer.dials c.args.dialer.now address PATIENCE_SECONDS None) c.args.addresses.now c.loop-address.address-index _ (omega arith)
    c.loop-address.invariant c.in_default.ensures

pub returns : goal.returns
returns g c =
    let whole : take c.loop-address.address-index c.args.addresses.now ≡ c.args.addresses.now = take_all _ _ (omega arith) in
    rw whole at c.loop-address.invariant
