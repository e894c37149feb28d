-- The body of a message, asked of the store.
use Rattle.std.proofs.Common.{◌≡◌, ◌≢◌, ℕ, List, true, false, Option, Some, None, Result, Ok, Err, refl, sym, ◌∙◌, ap, subst}
use Rattle.std.specs.Prelude.{IfOk, IsErrOf, MatchOption, OnErr, OnOk}
use Rattle.gate_world.specs.Causes.{Faults, LinkAlone, Rose}
use Rattle.gate_world.specs.Tape.{Adds}
use Rattle.gate_world.specs.declared.event.Event.{Event}
use Rattle.gate_world.proofs.Joins.{none, widen}
use Rattle.told_mail.specs.Mail.{IsNextMail}
use Rattle.told_mail.specs.Told.{Told}
use Rattle.email_bodies.specs.Keeping.{Bodies, after_use, body_at, with_body}
use Rattle.email_bodies.proofs.Unused.{unused_stay}
use Rattle.email_bodies.specs.declared.error.BodyError.{BodyError}
use Rattle.email_bodies.specs.declared.error.BodyError.TheVariants as failure
use Rattle.email_bodies.specs.declared.source.MessagePlace.{MessagePlace}
use Rattle.imap_exchange.specs.declared.link_end.LinkEnd.{LinkEnd}
use Rattle.imap_exchange.specs.declared.link_end.LinkEnd.TheVariants as end
use Rattle.imap_client.specs.Bodies.{FetchesBody, without_body}
use Rattle.imap_client.specs.LinkLife.{LinkLife, ClientState, Stands}
use Rattle.imap_client.specs.Rounds.{CountsOn, KeepsCount}
use Rattle.gate_machine.specs.Fetching.{AsksStore, Ends, HasEnded, HasKept, IsKept, IsTold, Asked, NotKept, Unasked, after_asking, keeping, keeping_body}
use Rattle.gate_machine.specs.Lending.{AnswersBody, KeepsOutside, HoldsSource, LeavesSource, Moment, RunsOut, SourceState}
use Rattle.gate_machine.specs.Progress.{Bears, Progress, StandsInLife, is_up, out_of_memory}
use Rattle.gate_machine.proofs.Asking.{alone_none, counts_none, goes_on_none}
use Rattle.gate_machine.proofs.Stages.{bears_end, in_life, NextJoins}

-- ---- what a fetch adds

abbrev pub Fetches : MessagePlace → Told → ClientState → Told → ClientState → Result (List ℕ) LinkEnd → List Event → Type 0
Fetches message before client after next result es =
    (life : LinkLife) → Stands client life → (left : LinkLife)
    × (fetches : FetchesBody message.folder message.uid before.mail after.mail life left next result es) × KeepsCount before after result fetches.exchanges

cause_of : (result : Result (List ℕ) LinkEnd) (R : Type 0) → (IsErrOf result end.Lost → R) → IsErrOf (without_body result) end.Lost → R
cause_of (Ok octets) R so is = absurd (let no : IsErrOf (Ok tt) end.Lost = is in cc)
cause_of (Err e) R so is = let same : e ≡ end.Lost = cc in so (ap (λ (x : LinkEnd). Err x) same)

-- a fetch by a client that is alive, for a body that isn't kept: it came to this, and told this
pub record Came (message : MessagePlace) (before after : Moment) (told : Told) (client : ClientState) (result : Result (List ℕ) LinkEnd) : Type 0 where
  pub alive : before.source.client.alive ≡ true
  pub lacks : body_at before.source.bodies message.email ≡ None
  pub run : Adds before.tape after.tape (Fetches message before.source.told before.source.client told client result)
  pub counts : CountsOn before.source.told told
  pub next : IsNextMail before.source.told.mail told.mail
  pub alone : LinkAlone before.faults after.faults
  pub cause : IsErrOf result end.Lost → Rose before.faults.link after.faults.link
  pub hidden : after.hidden ≡ before.hidden

-- the store was asked
pub record StoreAsked (message : MessagePlace) (before after : Moment) (told : Told) (client : ClientState) (result : Result (List ℕ) LinkEnd) (p : Progress) (was : Faults)
    (es : List Event) : Type 0 where
  pub asks : AsksStore message p result es
  pub told_is : asks.told ≡ told
  pub bodies_are : before.source.bodies ≡ asks.kept.known.bodies
  pub next : IsNextMail asks.kept.known.history.mail told.mail
  pub stands : Stands client asks.left
  pub bears : Bears (after_asking asks).blamed was after.faults

module _ (joins : NextJoins) {message : MessagePlace} {before after : Moment} {told : Told} {client : ClientState} where
  asked_store : {result : Result (List ℕ) LinkEnd} → Came message before after told client result → (p : Progress) (was : Faults) (es : List Event)
      → HoldsSource p before.source was before.faults → Fetches message before.source.told before.source.client told client result es
      → StoreAsked message before after told client result p was es
  asked_store {result} came p was es holds fetches =
      let here = in_life p.left before.source.client holds.in_life came.alive in
      let went : (left : LinkLife) × (f : FetchesBody message.folder message.uid holds.known.told.mail told.mail here.0 left client result es)
      × KeepsCount holds.known.told told result f.exchanges =
      subst (λ (t : Told). (left : LinkLife) × (f : FetchesBody message.folder message.uid t.mail told.mail here.0 left client result es) × KeepsCount t told result f.exchanges)
      holds.told (fetches here.0 here.2) in
      record {
        asks = record {
          kept = record { known = holds.known; ready = holds.ready; is_kept = ap (λ (b : Bodies). body_at b message.email) (sym holds.bodies) ∙ came.lacks };
          told = told;
          life = here.0;
          left = went.0;
          client = client;
          in_life = here.1;
          goes_on = sym here.2.alive ∙ came.alive;
          fetches = went.1;
          counted = went.2;
        };
        told_is = refl;
        bodies_are = holds.bodies;
        next = joins holds.known.history.mail before.source.told.mail told.mail
            (subst (λ (t : Told). IsNextMail holds.known.history.mail t.mail) (sym holds.told) holds.next) came.next;
        stands = went.1.follows.stands;
        bears = bears_end (without_body result) p.blamed was before.faults after.faults holds.bears came.alone
            (cause_of result (Rose before.faults.link after.faults.link) came.cause);
      }

  goes_on : {result : Result (List ℕ) LinkEnd} → Came message before after told client result → KeepsOutside before after
  goes_on came = record { alone = came.alone; hidden = came.hidden }

  -- the body came, and is kept
  pub answers_told : {octets : List ℕ} → Came message before after told client (Ok octets)
      → after.source ≡ record { told = told; bodies = with_body message.email octets before.source.bodies; client = client } → AnswersBody message (Some octets) before after
  answers_told {octets} came after_is =
      record {
        run = widen _ came.run (λ es fetches p was holds.
            let s = asked_store came p was es holds fetches in (
              keeping_body s.asks,
              IsTold octets s.asks refl refl,
              subst (λ (x : SourceState). HoldsSource (keeping_body s.asks) x was after.faults) (sym after_is) (record {
                known = record s.asks.kept.known { told = s.asks.told; bodies = with_body message.email octets s.asks.kept.known.bodies };
                ready = refl;
                told = sym s.told_is;
                bodies = ap (λ (b : Bodies). with_body message.email octets b) s.bodies_are;
                next = subst (λ (t : Told). IsNextMail s.asks.kept.known.history.mail t.mail) (sym s.told_is) s.next;
                in_life = s.stands;
                bears = s.bears;
              }),
            ));
        counts = subst (λ (x : SourceState). CountsOn before.source.told x.told) (sym after_is) came.counts;
        goes_on = goes_on came;
      }

  -- the link life ended
  pub answers_none : {e : LinkEnd} → Came message before after told client (Err e) → e ≢ end.Memory
      → after.source ≡ record { told = told; bodies = before.source.bodies; client = client } → AnswersBody message None before after
  answers_none {e} came other after_is =
      record {
        run = widen _ came.run (λ es fetches p was holds.
            let s = asked_store came p was es holds fetches in (
              after_asking s.asks,
              Ends e s.asks other refl refl,
              subst (λ (x : SourceState). HoldsSource (after_asking s.asks) x was after.faults) (sym after_is) (record {
                known = record s.asks.kept.known { told = s.asks.told };
                ready = refl;
                told = sym s.told_is;
                bodies = s.bodies_are;
                next = subst (λ (t : Told). IsNextMail s.asks.kept.known.history.mail t.mail) (sym s.told_is) s.next;
                in_life = s.stands;
                bears = s.bears;
              }),
            ));
        counts = subst (λ (x : SourceState). CountsOn before.source.told x.told) (sym after_is) came.counts;
        goes_on = goes_on came;
      }

  -- memory ran out meanwhile
  pub runs_out : Came message before after told client (Err end.Memory)
      → after.source ≡ record { told = told; bodies = before.source.bodies; client = client } → RunsOut message before after
  runs_out came after_is =
      record {
        run = widen _ came.run (λ es fetches p was holds.
            let s = asked_store came p was es holds fetches in (
              out_of_memory (after_asking s.asks),
              Asked s.asks refl,
              subst (λ (x : SourceState). LeavesSource (out_of_memory (after_asking s.asks)) x was after.faults) (sym after_is)
                  (record { in_life = s.stands; bears = s.bears }),
            ));
        counts = subst (λ (x : SourceState). CountsOn before.source.told x.told) (sym after_is) came.counts;
        goes_on = goes_on came;
      }

  -- memory ran out for the body that came
  pub runs_out_of_room : {octets : List ℕ} → Came message before after told client (Ok octets)
      → after.source ≡ record { told = told; bodies = before.source.bodies; client = client } → RunsOut message before after
  runs_out_of_room {octets} came after_is =
      record {
        run = widen _ came.run (λ es fetches p was holds.
            let s = asked_store came p was es holds fetches in (
              out_of_memory (after_asking s.asks),
              NotKept octets s.asks refl,
              subst (λ (x : SourceState). LeavesSource (out_of_memory (after_asking s.asks)) x was after.faults) (sym after_is)
                  (record { in_life = s.stands; bears = s.bears }),
            ));
        counts = subst (λ (x : SourceState). CountsOn before.source.told x.told) (sym after_is) came.counts;
        goes_on = goes_on came;
      }

-- ---- where the store isn't asked

up_none : (left : Option LinkLife) (client : ClientState) → StandsInLife left client → client.alive ≡ false → is_up left ≡ false
up_none None client dead is = refl
up_none (Some life) client stands is = sym stands.alive ∙ is

-- the link life had ended
pub answers_ended : (message : MessagePlace) (m : Moment) → m.source.client.alive ≡ false → body_at m.source.bodies message.email ≡ None → AnswersBody message None m m
answers_ended message m dead lacks =
    record {
      run = none m.tape _ (λ p was holds. (
        p,
        HasEnded (record { known = holds.known; ready = holds.ready; is_kept = ap (λ (b : Bodies). body_at b message.email) (sym holds.bodies) ∙ lacks })
            (up_none p.left m.source.client holds.in_life dead) refl refl refl,
        holds,
      ));
      counts = counts_none m.source.told;
      goes_on = goes_on_none m;
    }

-- the body was kept
pub answers_kept : (message : MessagePlace) (octets : List ℕ) (m : Moment) (source : SourceState) → body_at m.source.bodies message.email ≡ Some octets
    → source ≡ record m.source { bodies = after_use message.email m.source.bodies } → AnswersBody message (Some octets) m (record m { source = source })
answers_kept message octets m source is source_is =
    record {
      run = none m.tape _ (λ p was holds.
          let kept : HasKept message p (Some octets) =
          record { known = holds.known; ready = holds.ready; is_kept = ap (λ (b : Bodies). body_at b message.email) (sym holds.bodies) ∙ is } in (
            keeping p holds.known (after_use message.email holds.known.bodies),
            IsKept octets kept refl refl refl,
            subst (λ (x : SourceState). HoldsSource (keeping p holds.known (after_use message.email holds.known.bodies)) x was m.faults) (sym source_is) (record {
              known = record holds.known { bodies = after_use message.email holds.known.bodies };
              ready = refl;
              told = holds.told;
              bodies = ap (λ (b : Bodies). after_use message.email b) holds.bodies;
              next = holds.next;
              in_life = holds.in_life;
              bears = holds.bears;
            }),
          ));
      counts = subst (λ (x : SourceState). CountsOn m.source.told x.told) (sym source_is) (counts_none m.source.told);
      goes_on = record { alone = alone_none m.faults; hidden = refl };
    }

-- memory ran out before anything was asked
pub runs_out_first : (message : MessagePlace) (m : Moment) → RunsOut message m m
runs_out_first message m =
    record {
      run = none m.tape _ (λ p was holds. (out_of_memory p, Unasked refl refl, record { in_life = holds.in_life; bears = holds.bears }));
      counts = counts_none m.source.told;
      goes_on = goes_on_none m;
    }

-- ---- what calls answer

-- the body, where there was room for it
pub told_kept : {X : Type 0} (result : Result X BodyError) (octets : X) (P : X → Type 0) {A : Type 0} → IfOk result (λ o. o ≡ octets) → OnOk result A → (A → P octets)
    → IfOk result P
told_kept (Ok x) octets P is a so = subst P (sym is) (so a)
told_kept (Err e) octets P is a so = tt

pub told_lost : {X : Type 0} (result : Result X BodyError) {A P : Type 0} → OnErr result A → (A → P) → IsErrOf result failure.Memory → P
told_lost (Ok x) a so is = absurd cc
told_lost (Err e) a so is = so a

-- what is left where a body was looked for among those that are kept
pub looked_for : (email : ℕ) (source : SourceState) (bodies : Bodies) (found : Option (List ℕ)) → found ≡ body_at source.bodies email → bodies ≡ after_use email source.bodies
    → MatchOption found (record source { bodies = bodies } ≡ source) (λ octets. record source { bodies = bodies } ≡ record source { bodies = after_use email source.bodies })
looked_for email source bodies None is used = ap (λ (b : Bodies). record source { bodies = b }) (used ∙ unused_stay source.bodies email (sym is))
looked_for email source bodies (Some octets) is used = ap (λ (b : Bodies). record source { bodies = b }) used
