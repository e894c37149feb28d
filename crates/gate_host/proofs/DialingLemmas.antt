-- Addresses that are dialed in order.
use Rattle.std.proofs.Common.{◌<◌, ℕ, List, ◌++◌, Option, None, Some, length, take, drop, get_or, suc, sym, ap, ◌∙◌}
use Rattle.std.proofs.Math.Seq.{drop-cons}
use Rattle.std.proofs.lemmas.List.{take-append-drop}
use Rattle.std.specs.Prelude.{All}
use Rattle.std.specs.declared.net.socket_addr.SocketAddr.{SocketAddr}
use Rattle.gate_host.specs.Dialing.{FirstAnswer}

-- the address at the index answered, and those before it did not
pub answered : {S : Type 0} (dials : SocketAddr → ℕ → Option S → Type 0) (limit : ℕ) (addresses : List SocketAddr) (index : ℕ) (d : SocketAddr) (stream : S)
    → index < length addresses → All (λ address. dials address limit None) (take index addresses) → dials (get_or addresses index d) limit (Some stream)
    → FirstAnswer dials limit addresses (Some stream)
answered dials limit addresses index d stream within before here = (
  take index addresses,
  get_or addresses index d,
  drop (suc index) addresses,
  sym (take-append-drop index addresses) ∙ ap (λ (l : List SocketAddr). take index addresses ++ l) (drop-cons addresses index d within),
  before,
  here,
)
