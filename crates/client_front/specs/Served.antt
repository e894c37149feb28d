-- What sending to the client that is served comes to, in the state of the front.
use Rattle.std.specs.Prelude.{ℕ, List, Option}
use Rattle.client_front.specs.Accepting.{State}
use Rattle.client_front.specs.Handing.{Accepts, AcceptsNothing}
use Rattle.client_streams.specs.Kept.{Kept}
use Rattle.client_streams.specs.Leaving.{has_place}
use Rattle.client_front.specs.declared.serving.Serving.{Serving}

-- a look of the clock, and what is kept for the client that is served, alone have changed
abbrev pub with_kept : {L C S : Type 0} → C → Kept → State L C S → State L C S
with_kept clock kept state = record state { clock = clock; leaving = record state.leaving { kept = kept } }

module _ {L C S : Type 0} (takes : S → List ℕ → Option ℕ → S → Type 0) (sends : S → List ℕ → ℕ → Option ℕ → S → Type 0)
    (reads : C → Option ℕ → C → Type 0) where
  -- So many of these octets are accepted; some may be kept where there is a place for the client among those that take what is left.
  abbrev pub AcceptsAt : List ℕ → ℕ → State L C S → State L C S → Serving S → Serving S → Type 0
  AcceptsAt from count old new before after =
      Accepts takes sends reads (has_place old.leaving) from count old.clock new.clock (record { serving = before; kept = old.leaving.kept })
      (record { serving = after; kept = new.leaving.kept })

  -- none is, and what is kept for it is dropped
  abbrev pub AcceptsNothingAt : List ℕ → State L C S → State L C S → Serving S → Serving S → Type 0
  AcceptsNothingAt from old new before after =
      AcceptsNothing takes sends reads (has_place old.leaving) from old.clock new.clock (record { serving = before; kept = old.leaving.kept })
      (record { serving = after; kept = new.leaving.kept })
