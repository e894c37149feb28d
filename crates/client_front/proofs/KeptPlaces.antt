-- There is a place for the client that is served where some of its response is kept.
use Rattle.std.proofs.Common.{◌≡◌, ◌≢◌, ◌+◌, ◌≤◌, ◌++◌, ◌∙◌, ℕ, Bool, true, false, List, [], ◌∷◌, length, sym, ap, subst, refl, inl, inr, arith, length-append}
use Rattle.std.proofs.lemmas.Bool.{lt-ltb, ltb-true, false≢true}
use Rattle.std.specs.Prelude.{Option}
use Rattle.client_front.specs.Accepting.{AllCome, Come, FirstLeaves, HandsOnNobody, LookFails, Looks, NoTurn, NoneCame, NoneComes, NoneSpared, OneCame, OneSpared, OneTurn, Spared, Spares, State, TurnFails, Turns, World}
use Rattle.client_front.specs.Finishing.{Ends, FinishesOne, LooksOn, NoLook, OneLook}
use Rattle.client_front.specs.Handing.{Accepts, GivesNow, Offers, Sending}
use Rattle.client_front.specs.Reached.{HasPlace, IsReached, HasAccepted, HasAcceptedNobody, HasEnded, HasFinished, HasReceived, HasSent, HasSentNothing, IsNew}
use Rattle.client_front.specs.declared.scan.Coming.{Coming}
use Rattle.client_front.specs.declared.scan.Coming.TheVariants.{Never}
use Rattle.client_front.specs.declared.serving.Serving.{Serving}
use Rattle.client_streams.specs.Flushing.{FlushOn, IsFlushed, IsLost, IsSent, NoneUnsent, StaysUnsent, unflushed}
use Rattle.client_streams.specs.Kept.{Kept}
use Rattle.client_streams.specs.Leaving.{AllGoOn, Open, has_place, nobody_open}
use Rattle.client_streams.specs.declared.finished.Finished.{Finished}
use Rattle.client_streams.specs.declared.flushing.TheConstants.{MAX_FLUSHING_CLIENTS}
use Rattle.client_streams.specs.declared.unflushed.Unflushed.{Unflushed}

is-none : (keeps : Bool) (octets : List ℕ) → (octets ≢ [] → keeps ≡ true) → keeps ≡ false → octets ≡ []
is-none keeps [] has none = refl
is-none keeps (octet ∷ octets) has none = absurd (false≢true (sym none ∙ has (λ is. cc is)))

module _ {S : Type 0} where
  one-more : (clients : List (Unflushed S)) (client : Unflushed S) → length (clients ++ client ∷ []) ≡ length clients + 1
  one-more clients client = length-append clients (client ∷ [])

  -- where nothing is kept no place is asked for
  none-kept : (clients : Open S) → clients.kept.unsent ≡ [] → HasPlace clients
  none-kept clients none = λ some. absurd (some none)

  module _ (takes : S → List ℕ → Option ℕ → S → Type 0) (ends : S → S → Type 0) (gives : S → ℕ → Option (List ℕ) → S → Type 0)
      (closes : S → Type 0) (now : ℕ) where
    -- none comes to those that take what is left as they go on
    no-more-flush : {open_yet after : List (Finished S)} {olds news : List (Unflushed S)} → FlushOn takes ends gives closes now open_yet olds news after
        → length news ≤ length olds
    no-more-flush NoneUnsent = omega arith
    no-more-flush (StaysUnsent {olds = olds} {news = news} on old new waits) =
        let few = no-more-flush on in omega (arith, few, one-more olds old, one-more news new)
    no-more-flush (IsSent {olds = olds} on old left sent client ended lingers) = let few = no-more-flush on in omega (arith, few, one-more olds old)
    no-more-flush (IsLost {olds = olds} on old left lost closed) = let few = no-more-flush on in omega (arith, few, one-more olds old)

    place-stays : (old new : Open S) → HasPlace old → AllGoOn takes ends gives closes now old new → HasPlace new
    place-stays old new has on = λ some.
        let within = ltb-true (length old.flushing) MAX_FLUSHING_CLIENTS (has (subst (λ (k : Kept). k.unsent ≢ []) on.3 some)) in
        let few = no-more-flush on.1 in
        lt-ltb (length new.flushing) MAX_FLUSHING_CLIENTS (omega (arith, within, few))

  -- the client of whose response some is kept takes what is left of it
  pub client-stays : (closes : S → Type 0) (now : ℕ) (stream : S) (old : Open S) (after : List (Unflushed S)) → HasPlace old → old.kept.unsent ≢ []
      → IsFlushed closes now stream old.kept old.flushing after → after ≡ old.flushing ++ unflushed now stream old.kept ∷ []
  client-stays closes now stream old after has some (inl added) = added.1
  client-stays closes now stream old after has some (inr full) =
      let within = ltb-true (length old.flushing) MAX_FLUSHING_CLIENTS (has some) in
      absurd (omega (arith, within, full.0))

module _ {S : Type 0} (takes : S → List ℕ → Option ℕ → S → Type 0) where
  -- where none may be kept, and nothing is, nothing is kept later
  gives-none : (from : List ℕ) (count : ℕ) (old new : Sending S) → old.kept.unsent ≡ []
      → GivesNow takes from count old new → new.kept.unsent ≡ []
  gives-none from count old new none (inl (same, (took, is))) = ap (λ (s : Sending S). s.kept.unsent) is ∙ none
  gives-none from count old new none (inr (some, nothing, taken, takes_kept)) = absurd (some none)

  offers-none : (from : List ℕ) (count : ℕ) (old new : Sending S) → old.kept.unsent ≡ []
      → Offers takes false from count old new → new.kept.unsent ≡ []
  offers-none from count old new none (inl (some, gives)) = gives-none from count old new none gives
  offers-none from count old new none (inr (mid, gives, (zero, is))) =
      ap (λ (s : Sending S). s.kept.unsent) is ∙ gives-none from 0 old mid none gives

  accepts-place : {C : Type 0} (sends : S → List ℕ → ℕ → Option ℕ → S → Type 0) (reads : C → Option ℕ → C → Type 0)
      (keeps : Bool) (from : List ℕ) (count : ℕ) (clock later : C) (old new : Sending S) → (old.kept.unsent ≢ [] → keeps ≡ true)
      → Accepts takes sends reads keeps from count clock later old new → new.kept.unsent ≢ [] → keeps ≡ true
  accepts-place sends reads true from count clock later old new has accepts some = refl
  accepts-place sends reads false from count clock later old new has (inl (more, offers, same)) some =
      absurd (some (offers-none from count old new (is-none false old.kept.unsent has refl) offers))
  accepts-place sends reads false from count clock later old new has (inr (tried, all, between, offers, empties, none, sent)) some =
      absurd (some (ap (λ (k : Kept). k.unsent) sent.stands ∙ none))

module _ {L C S : Type 0} (world : World L C S) where
  -- who comes and who is spared changes nothing for those whose response has ended
  spared-same : {old : State L C S} {n : ℕ} {new : State L C S} → Spared world old n new → new.leaving ≡ old.leaving
  spared-same NoneSpared = refl
  spared-same (OneSpared spared (after, room, is)) = ap (λ (s : State L C S). s.leaving) is ∙ spared-same spared

  spares-same : (old new : State L C S) → Spares world old new → new.leaving ≡ old.leaving
  spares-same old new (inl spared) = spared-same spared
  spares-same old new (inr (n, mid, few, spared, (after, room, is))) = ap (λ (s : State L C S). s.leaving) is ∙ spared-same spared

  come-same : {now : ℕ} {old : State L C S} {n : ℕ} {new : State L C S} → Come world now old n new → new.leaving ≡ old.leaving
  come-same NoneCame = refl
  come-same (OneCame come (stream, listener, comes, (after, admits, is))) = ap (λ (s : State L C S). s.leaving) is ∙ come-same come

  none-comes-same : (old new : State L C S) → NoneComes world old new → new.leaving ≡ old.leaving
  none-comes-same old new (inl (comes, is)) = ap (λ (s : State L C S). s.leaving) is
  none-comes-same old new (inr (listener, comes, spares)) = spares-same (record old { listener = listener }) new spares

  all-come-same : (now : ℕ) (old new : State L C S) → AllCome world now old new → new.leaving ≡ old.leaving
  all-come-same now old new (inl come) = come-same come
  all-come-same now old new (inr (n, mid, few, come, none)) = none-comes-same mid new none ∙ come-same come

  -- nor does a client that leaves those who ask
  first-leaves-same : (stream : S) (it : Coming) (old new : State L C S) → FirstLeaves world stream it old new → new.leaving ≡ old.leaving
  first-leaves-same stream it old new (rest, first, looked, is) = ap (λ (s : State L C S). s.leaving) is

  looks-place : (old new : State L C S) → HasPlace old.leaving → Looks world old new → HasPlace new.leaving
  looks-place old new has looks =
      let same = all-come-same looks.now (record old { listener = looks.listener; clock = looks.clock }) looks.came looks.come in
      place-stays world.takes world.ends world.gives world.closes looks.now looks.came.leaving new.leaving
      (subst (λ (o : Open S). HasPlace o) (sym same) has) looks.went_on

  look-fails-same : (old new : State L C S) → LookFails world old new → new.leaving ≡ old.leaving
  look-fails-same old new (inl (waited, is)) = ap (λ (s : State L C S). s.leaving) is
  look-fails-same old new (inr (keys, waited, looked, is)) = ap (λ (s : State L C S). s.leaving) is

  same-place : (old new : State L C S) → new.leaving ≡ old.leaving → HasPlace old.leaving → HasPlace new.leaving
  same-place old new same has = subst (λ (o : Open S). HasPlace o) (sym same) has

  turns-place : {old : State L C S} {n : ℕ} {new : State L C S} → HasPlace old.leaving → Turns world old n new → HasPlace new.leaving
  turns-place has NoTurn = has
  turns-place has (OneTurn {mid = mid} {new = new} turns (inl (stream, first, closed))) =
      same-place mid new (first-leaves-same stream Never mid new first) (turns-place has turns)
  turns-place has (OneTurn {mid = mid} {new = new} turns (inr (nobody, looks))) = looks-place mid new (turns-place has turns) looks

  turn-fails-same : (old new : State L C S) → TurnFails world old new → new.leaving ≡ old.leaving
  turn-fails-same old new (inl (stream, it, left, first, comes, looked, closed, is)) =
      ap (λ (s : State L C S). s.leaving) is ∙ first-leaves-same stream it old left first
  turn-fails-same old new (inr (nobody, fails)) = look-fails-same old new fails

  nobody-place : (old new : State L C S) → HasPlace old.leaving → HandsOnNobody world old new → HasPlace new.leaving
  nobody-place old new has (inl (n, mid, turns, fails)) = same-place mid new (turn-fails-same mid new fails) (turns-place has turns)
  nobody-place old new has (inr turns) = turns-place has turns

  looks-on-place : {old : State L C S} {n : ℕ} {new : State L C S} → HasPlace old.leaving → LooksOn world old n new → HasPlace new.leaving
  looks-on-place has NoLook = has
  looks-on-place has (OneLook {mid = mid} {new = new} on some looks) = looks-place mid new (looks-on-place has on) looks

  ends-place : (old new : State L C S) → HasPlace old.leaving → Ends world old new → HasPlace new.leaving
  ends-place old new has (inl (n, on, over)) = looks-on-place has on
  ends-place old new has (inr (inl (n, mid, on, some, fails))) = same-place mid new (look-fails-same mid new fails) (looks-on-place has on)
  ends-place old new has (inr (inr on)) = looks-on-place has on

  finishes-place : (serving : Serving S) (old new : State L C S) → HasPlace old.leaving
      → FinishesOne world.ends world.closes world.gives world.reads serving old new → HasPlace new.leaving
  finishes-place serving old new has (same, inl (none, inl (closed, is))) = same-place old new is has
  finishes-place serving old new has (same, inl (none, inr (client, ended, lingers, is))) =
      none-kept new.leaving (ap (λ (o : Open S). o.kept.unsent) is ∙ none)
  finishes-place serving old new has (same, inr (some, inl (looked, closed, is))) = same-place old new is has
  finishes-place serving old new has (same, inr (some, inr (now, looked, flushed, is))) =
      none-kept new.leaving (ap (λ (o : Open S). o.kept.unsent) is)

  -- there is a place for it after whatever calls
  pub kept-has-place : {sends : S → List ℕ → ℕ → Option ℕ → S → Type 0} {front : State L C S} → IsReached world sends front → HasPlace front.leaving
  kept-has-place (IsNew listener clock) = none-kept {S = S} nobody_open refl
  kept-has-place (HasAccepted {new = new} before serving (n, mid, turns, handed)) =
      none-kept new.leaving (ap (λ (s : State L C S). s.leaving.kept.unsent) handed.after)
  kept-has-place (HasAcceptedNobody {old = old} {new = new} before nobody) = nobody-place old new (kept-has-place before) nobody
  kept-has-place (HasReceived before clock) = kept-has-place before
  kept-has-place {sends} (HasSent {old = old} {new = new} before from count served after accepts is) = λ some.
      ap (λ (s : State L C S). has_place s.leaving) is
      ∙ accepts-place world.takes sends world.reads (has_place old.leaving) from count old.clock new.clock
      (record { serving = served; kept = old.leaving.kept }) (record { serving = after; kept = new.leaving.kept }) (kept-has-place before) accepts some
  kept-has-place (HasSentNothing {new = new} before from served after (left, refuses, dropped) is) =
      none-kept new.leaving (ap (λ (s : Sending S). s.kept.unsent) dropped)
  kept-has-place (HasFinished {old = old} {new = new} before serving finishes) = finishes-place serving old new (kept-has-place before) finishes
  kept-has-place (HasEnded {old = old} {new = new} before ends) = ends-place old new (kept-has-place before) ends
