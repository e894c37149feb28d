-- The addresses before the index gave no stream.
use Rattle.std.proofs.Common.{None, take}
use Rattle.std.specs.Prelude.{All}
use Rattle.gate_host.specs.declared.tcp_link.TheConstants.{PATIENCE_SECONDS}
use Rattle.gate_host.proofs.tcp_link.first_answer.Given as goal

abbrev pub invariant-loop-address : goal.invariant-loop-address
invariant-loop-address g l = All (λ address. g.D.Dialer.dials l.dialer address PATIENCE_SECONDS None) (take l.address-index l.addresses)
