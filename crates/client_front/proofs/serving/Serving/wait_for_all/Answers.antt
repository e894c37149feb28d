use Rattle.std.proofs.lemmas.Bool.{false≢true}
use Rattle.client_front.specs.Handing.{NoWait, OneWait}
use Rattle.client_front.proofs.serving.Serving.wait_for_all.Goals as goal

pub pieces-init : goal.pieces-init
pieces-init g c = NoWait

pub pieces-preserved : goal.pieces-preserved
pieces-preserved g c =
    OneWait c.pieces.invariant (λ none. false≢true (c.pieces-test.ensures.1 none)) c.in_ok-wait_for_some.field-0 c.in_ok-wait_for_some.ensures.in_time

pub returns-in_err-wait_for_some-clause-fails : goal.returns-in_err-wait_for_some-clause-fails
returns-in_err-wait_for_some-clause-fails g c =
    rw c.from_residual.ensures (
      c.pieces.clock,
      record { serving = c.pieces.self; kept = c.pieces.kept },
      c.pieces.invariant,
      (λ none. false≢true (c.pieces-test.ensures.1 none)),
      c.in_err-wait_for_some.ensures.fails,
    )
