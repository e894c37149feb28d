-- A world that is another, but for its tape.
use Rattle.std.proofs.Common.{◌≡◌, ℕ, List, Option, refl, subst}
use Rattle.gate_world.specs.Causes.{Faults, Hidden}
use Rattle.honest_store.specs.Sessions.{StoreSession}
use Rattle.scripted_world.specs.declared.left.Left.{Left}
use Rattle.scripted_world.specs.Script.{Scripted}
use Rattle.store_world.specs.StoreBehindLink.{IsButForTape, StoreBehindLink}

scripted_is : (w this : Scripted) → w.faults ≡ this.faults → w.hidden ≡ this.hidden → w.left ≡ this.left → w ≡ record this { tape = w.tape }
scripted_is w this faults hidden left =
    let first : w ≡ record w { faults = this.faults } = subst (λ (f : Faults). w ≡ record w { faults = f }) faults refl in
    let second : w ≡ record w { faults = this.faults; hidden = this.hidden } =
    subst (λ (h : Hidden). w ≡ record w { faults = this.faults; hidden = h }) hidden first in
    subst (λ (l : Left). w ≡ record { tape = w.tape; faults = this.faults; hidden = this.hidden; left = l }) left second

-- the parts of two worlds, one after another
standing_is : (w : StoreBehindLink) (steady : Scripted) (session : StoreSession) (unread ready : List ℕ) (faults keeping : ℕ) (sent : Option (List ℕ)) → w.steady ≡ steady
    → w.session ≡ session → w.unread ≡ unread → w.ready ≡ ready → w.link_faults ≡ faults → w.keep_faults ≡ keeping → w.sent ≡ sent
    → w ≡ record { steady = steady; session = session; unread = unread; ready = ready; link_faults = faults; keep_faults = keeping; sent = sent }
standing_is w steady session unread ready faults keeping sent a b c d e k f =
    let one : w ≡ record w { steady = steady } = subst (λ (x : Scripted). w ≡ record w { steady = x }) a refl in
    let two : w ≡ record w { steady = steady; session = session } = subst (λ (x : StoreSession). w ≡ record w { steady = steady; session = x }) b one in
    let three : w ≡ record w { steady = steady; session = session; unread = unread } =
    subst (λ (x : List ℕ). w ≡ record w { steady = steady; session = session; unread = x }) c two in
    let four : w ≡ record w { steady = steady; session = session; unread = unread; ready = ready } =
    subst (λ (x : List ℕ). w ≡ record w { steady = steady; session = session; unread = unread; ready = x }) d three in
    let five : w ≡ record w { steady = steady; session = session; unread = unread; ready = ready; link_faults = faults } =
    subst (λ (x : ℕ). w ≡ record w { steady = steady; session = session; unread = unread; ready = ready; link_faults = x }) e four in
    let six : w ≡ record w { steady = steady; session = session; unread = unread; ready = ready; link_faults = faults; keep_faults = keeping } =
    subst (λ (x : ℕ). w ≡ record w { steady = steady; session = session; unread = unread; ready = ready; link_faults = faults; keep_faults = x }) k five in
    subst (λ (x : Option (List ℕ)). w ≡ record { steady = steady; session = session; unread = unread; ready = ready; link_faults = faults; keep_faults = keeping; sent = x }) f six

pub but_for_tape : (w this : StoreBehindLink) → w.steady.faults ≡ this.steady.faults → w.steady.hidden ≡ this.steady.hidden → w.steady.left ≡ this.steady.left
    → w.session ≡ this.session → w.unread ≡ this.unread → w.ready ≡ this.ready → w.link_faults ≡ this.link_faults → w.keep_faults ≡ this.keep_faults
    → w.sent ≡ this.sent → IsButForTape w this
but_for_tape w this faults hidden left session unread ready link_faults keep_faults sent =
    standing_is w _ _ _ _ _ _ _ (scripted_is w.steady this.steady faults hidden left) session unread ready link_faults keep_faults sent
