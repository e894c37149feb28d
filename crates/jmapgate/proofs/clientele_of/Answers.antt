use Rattle.std.proofs.Common.{subst, sym}
use Rattle.client_front.specs.Accepting.{state}
use Rattle.jmapgate.specs.Clientele.{AreListenedFor}
use Rattle.jmapgate.specs.declared.Clientele.TheVariants as clientele
use Rattle.jmapgate.specs.declared.Listening.{Listening}
use Rattle.jmapgate.proofs.Clients.{its-own, so-of-both}
use Rattle.jmapgate.proofs.clientele_of.Goals as goal

pub returns-in_ok-front-in-Requests : goal.returns-in_ok-front-in-Requests
returns-in_ok-front-in-Requests c =
    subst (λ (l : Listening). AreListenedFor l (clientele.Requests c.in_ok-front-in-Requests.front)) (sym c.in-Requests.is) (
      so-of-both _ _ (λ listener front so. (its-own listener _ (state front.acceptor) so.0, so.1)) c.bind-listener.result
          c.in_ok-front-in-Requests.front.clients c.in_ok-front-in-Requests.ensures.clients,
      c.in_ok-front-in-Requests.ensures.faults,
    )
