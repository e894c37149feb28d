-- What calls of a front, one after another, come to.
use Rattle.std.specs.Prelude.{◌≡◌, ◌≢◌, ℕ, true, List, [], Option}
use Rattle.client_front.specs.Accepting.{HandsOnFirst, HandsOnNobody, State, World, nobody_yet}
use Rattle.client_front.specs.Finishing.{Ends, FinishesOne}
use Rattle.client_front.specs.Served.{AcceptsAt, AcceptsNothingAt, with_kept}
use Rattle.client_streams.specs.Leaving.{Open, has_place}
use Rattle.client_front.specs.declared.serving.Serving.{Serving}

-- Where some of its response is kept that the client which is served has not taken, there is a place for it among those that take what is
-- left of theirs.
abbrev pub HasPlace : {S : Type 0} → Open S → Type 0
HasPlace clients = clients.kept.unsent ≢ [] → has_place clients ≡ true

-- The state of a new front, or of one after a call: each call comes to what its clauses say. One of a client that is served, where none is,
-- changes nothing but the clock.
pub data IsReached {L C S : Type 0} (world : World L C S) (sends : S → List ℕ → ℕ → Option ℕ → S → Type 0) : State L C S → Type 0 where
  IsNew : (listener : L) (clock : C) → IsReached world sends (nobody_yet listener clock)
  HasAccepted : {old new : State L C S} → IsReached world sends old → (serving : Serving S) → HandsOnFirst world old new serving
      → IsReached world sends new
  HasAcceptedNobody : {old new : State L C S} → IsReached world sends old → HandsOnNobody world old new → IsReached world sends new
  HasReceived : {old : State L C S} → IsReached world sends old → (clock : C) → IsReached world sends (record old { clock = clock })
  HasSent : {old new : State L C S} → IsReached world sends old → (from : List ℕ) (count : ℕ) (before after : Serving S)
      → AcceptsAt world.takes sends world.reads from count old new before after → new ≡ with_kept new.clock new.leaving.kept old
      → IsReached world sends new
  HasSentNothing : {old new : State L C S} → IsReached world sends old → (from : List ℕ) (before after : Serving S)
      → AcceptsNothingAt world.takes sends world.reads from old new before after → new ≡ with_kept new.clock new.leaving.kept old
      → IsReached world sends new
  HasFinished : {old new : State L C S} → IsReached world sends old → (serving : Serving S)
      → FinishesOne world.ends world.closes world.gives world.reads serving old new → IsReached world sends new
  HasEnded : {old new : State L C S} → IsReached world sends old → Ends world old new → IsReached world sends new
