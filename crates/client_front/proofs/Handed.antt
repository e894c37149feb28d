-- How a client is handed on, and what a look comes to.
use Rattle.std.proofs.Common.{◌≡◌, ◌≢◌, ◌∙◌, ℕ, List, ◌∷◌, true, false, refl, sym, ap, subst}
use Rattle.std.proofs.lemmas.Bool.{false≢true}
use Rattle.client_front.specs.Accepting.{FirstLeaves, HandsOn, State, World, state}
use Rattle.client_front.specs.Deadlines.{begun}
use Rattle.client_front.specs.Scanning.{IsComing, unscanned}
use Rattle.client_front.specs.Waiting.{Held, held, is_never}
use Rattle.client_streams.specs.Leaving.{AllGoOn, Open, open_of}
use Rattle.client_streams.specs.Patience.{untaken}
use Rattle.client_streams.specs.Sending.{nothing_kept}
use Rattle.client_front.specs.declared.acceptor.Acceptor.{Acceptor}
use Rattle.client_streams.specs.declared.leaving.Leaving.{Leaving}
use Rattle.client_front.specs.declared.scan.Coming.{Coming}
use Rattle.client_front.specs.declared.scan.Coming.TheVariants.{Nothing, Part, Whole, Never}
use Rattle.client_front.specs.declared.scan.Scan.{Scan}
use Rattle.client_front.specs.declared.serving.Serving.{Serving}
use Rattle.std.specs.Prelude.{Option, Some}
use Rattle.client_front.specs.declared.waiting.Idle.{Idle}
use Rattle.client_front.specs.declared.waiting.Waiting.{Waiting}

-- none comes any more
pub never-comes : (it : Coming) → is_never it ≡ true → it ≡ Never
never-comes Nothing so = cc
never-comes (Part scan) so = cc
never-comes Whole so = cc
never-comes Never so = refl

pub still-comes : (it : Coming) → is_never it ≡ false → it ≢ Never
still-comes it so = λ is. false≢true (sym so ∙ ap is_never is)

module _ {L C S : Type 0} where
  -- those who wait, when the late have left and those whose response has ended have gone on
  pub look-ends : (came asked : Acceptor L C S) (after : Waiting S) (leaving : Leaving S) → asked ≡ record came { waiting = asked.waiting }
      → state (record asked { waiting = after; leaving = leaving })
      ≡ record { listener = came.listener; clock = came.clock; key = came.next_key; held = held after; leaving = open_of leaving }
  look-ends came asked after leaving same =
      let P : Acceptor L C S → Type 0 = λ a. state (record asked { waiting = after; leaving = leaving })
      ≡ record { listener = a.listener; clock = a.clock; key = a.next_key; held = held after; leaving = open_of leaving } in
      let here : P asked = refl in
      subst P same here

  -- those whose response has ended are those that were when clients came
  pub look-went-on : (takes : S → List ℕ → Option ℕ → S → Type 0) (ends : S → S → Type 0) (gives : S → ℕ → Option (List ℕ) → S → Type 0)
      (closes : S → Type 0) (came asked : Acceptor L C S) (now : ℕ) (leaving : Open S)
      → asked ≡ record came { waiting = asked.waiting } → AllGoOn takes ends gives closes now (open_of asked.leaving) leaving
      → AllGoOn takes ends gives closes now (open_of came.leaving) leaving
  look-went-on takes ends gives closes came asked now leaving same went_on =
      subst (λ (a : Acceptor L C S). AllGoOn takes ends gives closes now (open_of a.leaving) leaving) same went_on

  module _ (world : World L C S) where
    -- the client that asked first is taken out
    pub first-leaves : (old : State L C S) (stream : S) (popped : Held S) (scan : Scan) (it shown : Coming) → old.held.asking ≡ stream ∷ popped.asking
        → popped.idle ≡ old.held.idle → scan ≡ unscanned → IsComing world.shows scan stream it → it ≡ shown
        → FirstLeaves world stream shown old (record old { held = popped })
    first-leaves old stream popped scan it shown first same new looked is = (
      popped.asking,
      first,
      subst (λ (i : Coming). IsComing world.shows unscanned stream i) is (subst (λ (s : Scan). IsComing world.shows s stream it) new looked),
      ap (λ (i : List (Idle S)). record old { held = record { idle = i; asking = popped.asking } }) same,
    )

    -- it is handed on
    pub hands-on : (old left new : State L C S) (gone_on : Open S) (stream : S) (it : Coming) (serving : Serving S) (now : ℕ)
        → serving ≡ record { stream = stream; progress = begun now; taking = untaken } → FirstLeaves world stream it old left → it ≢ Never
        → world.reads left.clock (Some now) new.clock → AllGoOn world.takes world.ends world.gives world.closes now left.leaving gone_on
        → new ≡ record left { clock = new.clock; leaving = record gone_on { kept = nothing_kept } } → HandsOn world old new serving
    hands-on old left new gone_on stream it serving now is first comes looked went_on after =
        subst (λ (s : Serving S). HandsOn world old new s) (sym is)
        (record { left = left; it = it; first = first; comes = comes; now = now; is_now = looked; gone_on = gone_on; went_on = went_on; after = after; begins = refl; unsent = refl })
