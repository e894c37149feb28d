use Rattle.std.proofs.Common.{inl}
use Rattle.client_front.specs.Accepting.{NoTurn, OneTurn, state}
use Rattle.client_front.proofs.acceptor.Acceptor+L+C+L+Stream.next.Goals as goal

pub turns-init : goal.turns-init
turns-init g c = NoTurn

pub returns-in_err-turned-clause-nobody : goal.returns-in_err-turned-clause-nobody
returns-in_err-turned-clause-nobody g c = rw c.from_residual.ensures (inl (c.turns.turn, state c.turns.self, c.turns.invariant, c.in_err-turned.ensures.fails))

pub returns-in-Some-clause-handed : goal.returns-in-Some-clause-handed
returns-in-Some-clause-handed g c =
    (c.turns.turn, state c.turns.self, c.turns.invariant, rw c.in-Some.is at c.in_ok-turned.ensures.handed)

pub turns-preserved : goal.turns-preserved
turns-preserved g c = OneTurn c.turns.invariant (rw c.in-None.is at c.in_ok-turned.ensures.turned)
