-- Which stream a dial comes to.
use Rattle.std.specs.Prelude.{◌≡◌, ◌++◌, ℕ, List, ◌∷◌, Option, None, Some, All}
use Rattle.std.specs.declared.net.socket_addr.SocketAddr.{SocketAddr}
use Rattle.gate_host.specs.declared.tcp_link.TheConstants.{MAX_ADDRESSES}

-- The addresses are dialed in order, each within the limit, until one gives a stream: those before it gave none. Where none
-- does, each was dialed.
abbrev pub FirstAnswer : {S : Type 0} → (SocketAddr → ℕ → Option S → Type 0) → ℕ → List SocketAddr → Option S → Type 0
FirstAnswer dials limit addresses None = All (λ address. dials address limit None) addresses
FirstAnswer dials limit addresses (Some stream) =
    (refused : List SocketAddr) × (address : SocketAddr) × (rest : List SocketAddr) × (addresses ≡ refused ++ address ∷ rest)
    × All (λ earlier. dials earlier limit None) refused × dials address limit (Some stream)

-- the same for the addresses that were found
abbrev pub FirstOfFound : {S : Type 0} → (SocketAddr → ℕ → Option S → Type 0) → ℕ → Option (List SocketAddr) → Option S → Type 0
FirstOfFound dials limit None stream = stream ≡ None
FirstOfFound dials limit (Some addresses) stream = FirstAnswer dials limit addresses stream

-- The store's name was looked up, and the addresses that were found, `MAX_ADDRESSES` at most, were dialed in order.
abbrev pub Connects : {S : Type 0} → (List ℕ → ℕ → Option (List SocketAddr) → Type 0) → (SocketAddr → ℕ → Option S → Type 0) → ℕ → List ℕ → Option S → Type 0
Connects looks_up dials limit store stream = (found : Option (List SocketAddr)) × looks_up store MAX_ADDRESSES found × FirstOfFound dials limit found stream
