-- A method that reads, over mail that is lent to it and taken back.
use Rattle.std.proofs.Common.{◌≡◌, ◌∙◌, ℕ, List, map, Option, Some, Result, Ok, Err, refl, sym, ap, subst, inl, inr}
use Rattle.gate_world.specs.Causes.{Faults}
use Rattle.gate_world.specs.declared.event.Event.{Event}
use Rattle.gate_world.proofs.Joins.{widen}
use Rattle.serde_json.specs.declared.value.Value.{Value}
use Rattle.serde_json.specs.Data.{Data}
use Rattle.serde_json.specs.View.{view}
use Rattle.email_bodies.specs.Asking.{BodyAsk}
use Rattle.email_bodies.proofs.Due.{due_more}
use Rattle.email_get.specs.Asked.{AsksAnd, AsksAndMeets, FailsAfter}
use Rattle.email_bodies.specs.Asking.{AsksInVain}
use Rattle.email_bodies.specs.declared.source.MessagePlace.{MessagePlace}
use Rattle.std.specs.Prelude.{IsSome}
use Rattle.gate_machine.specs.Fetching.{AsksBody, IsKept, IsTold, Ends, HasEnded, AsksBodies, NoBodies, MoreBodies}
use Rattle.imap_client.specs.LinkLife.{ClientState}
use Rattle.imap_client.specs.Rounds.{CountsOn}
use Rattle.jmap_arguments.specs.declared.method_error.MethodError.{MethodError}
use Rattle.jmap_arguments.specs.declared.method_error.MethodError.TheVariants.{Memory}
use Rattle.jmap_core.specs.CreatedIds.{Ids}
use Rattle.mail_state.specs.History.{MailHistory}
use Rattle.mail_state.specs.State.{IsStateOf, ServedState}
use Rattle.gate_machine.specs.History.{KnownMail}
use Rattle.gate_machine.specs.Holding.{HoldsMachine}
use Rattle.gate_machine.specs.Kept.{ServedMail}
use Rattle.gate_machine.specs.Lending.{HoldsSource, IsLentOf, Moment}
use Rattle.gate_machine.specs.Progress.{CameTo, Progress, StandsInLife}
use Rattle.gate_machine.specs.declared.machine.Machine.{Machine}
use Rattle.gate_machine.specs.declared.mail_status.MailStatus.{MailStatus}
use Rattle.gate_machine.specs.declared.mail_status.MailStatus.TheVariants.{Stands}
use Rattle.gate_machine.proofs.Asking as asking
use Rattle.gate_machine.proofs.Asking.{asked_in_vain, asked_these, bodies_stay}
use Rattle.gate_calls.specs.Calling.{Body}
use Rattle.gate_calls.specs.Mailings.{Mailing, mail_at, mailing_by}
use Rattle.gate_calls.specs.Methods.{RepliesTo}
use Rattle.gate_calls.specs.RequestMail.{ReadsMail, LacksReading, RequestAnswers, RequestLacks, RequestMoment}
use Rattle.gate_calls.specs.Sources.{Gives}
use Rattle.gate_calls.specs.declared.method.Method.{Method}

-- the mail of a request, at a moment of the source that is lent
abbrev pub at : Machine → ClientState → MailStatus → Ids → Moment → RequestMoment
at machine client status created x = record {
  machine = machine;
  client = client;
  status = status;
  created = created;
  tape = x.tape;
  faults = x.faults;
  hidden = x.hidden;
}

-- there is a link life still
body_life : {message : MessagePlace} {p q : Progress} {body : Option (List ℕ)} {events : List Event} → AsksBody message p body events q → IsSome p.left → IsSome q.left
body_life (IsKept octets kept body_is none is) life = subst (λ (x : Progress). IsSome x.left) (sym is) life
body_life (IsTold octets asks body_is is) life = subst (λ (x : Progress). IsSome x.left) (sym is) refl
body_life (Ends e asks other body_is is) life = subst (λ (x : Progress). IsSome x.left) (sym is) refl
body_life (HasEnded kept ended body_is none is) life = subst (λ (x : Progress). IsSome x.left) (sym is) life

life_stays : {p q : Progress} {asks : List BodyAsk} {events : List Event} → AsksBodies p asks events q → IsSome p.left → IsSome q.left
life_stays NoBodies life = life
life_stays (MoreBodies next bodies) life = body_life next.asks (life_stays bodies life)

-- what is told of the mail goes on
pub counts_of : {S : Type 0} (moment : S → Moment) (s t : S) (came : Result Value MethodError) (IsMeant : List BodyAsk → Result Data MethodError → Type 0)
    → AsksAndMeets (asking.Answers moment) (asking.Lacks moment) s t Memory view came IsMeant → CountsOn (moment s).source.told (moment t).source.told
counts_of moment s t (Ok value) IsMeant asks = (asked_these moment asks.asked).counts
counts_of moment s t (Err e) IsMeant (inl lacks) = (asked_in_vain moment lacks.1).counts
counts_of moment s t (Err e) IsMeant (inr asks) = (asked_these moment asks.asked).counts

module _ {S : Type 0} (moment : S → Moment) (uploads : List (List ℕ)) (machine left : Machine) (client gone : ClientState) (status : MailStatus) (created : Ids) (served : ServedMail) (s t : S)
    (m : Method) (d : Data) (stands : status ≡ Stands)
    (lent : (p : Progress) (was now : Faults) → CameTo machine client Stands was now p
    → (k : KnownMail) × (p.machine.known ≡ Some k) × IsLentOf k served × HoldsSource p (moment s).source was now)
    (held : (p : Progress) (k : KnownMail) (was now : Faults) → p.machine.known ≡ Some k → IsLentOf k served → HoldsSource p (moment t).source was now
    → HoldsMachine p.machine left)
    (gone_is : gone ≡ (moment t).source.client) where
  abbrev Replies : List BodyAsk → Result Data MethodError → Type 0
  Replies asks r = (h : MailHistory) → IsStateOf h served.state → RepliesTo m (record { mail = Ok h; uploads = uploads }) d asks r

  came_standing : {p : Progress} {was now : Faults} → CameTo machine client status was now p → CameTo machine client Stands was now p
  came_standing here = record { held = here.held; standing_is = here.standing_is ∙ stands; in_life = here.in_life; bears = here.bears }

  served_at : (p : Progress) (k : KnownMail) → p.standing ≡ Stands → p.machine.known ≡ Some k → mail_at p ≡ Ok k.history
  served_at p k stands ready = (λ i. mailing_by (stands i) (ready i))

  answered : (r : Result Data MethodError) → AsksAnd (asking.Answers moment) (asking.Lacks moment) s t (λ asks. Replies asks r)
      → RequestAnswers uploads (at machine client status created (moment s)) m d r (at left gone status created (moment t))
  answered r answers =
      let these = asked_these moment answers.asked in
      record {
        run = widen _ these.run (λ es run p was here.
            let l = lent p was (moment s).faults (came_standing here.came) in
            let q = run p was l.3 in
            let stays = bodies_stay l.0 l.1 q.1 in
            let replies : RepliesTo m (record { mail = mail_at p; uploads = uploads }) d answers.asks r =
            subst (λ (mail : Mailing). RepliesTo m (record { mail = mail; uploads = uploads }) d answers.asks r) (sym (served_at p l.0 (here.came.standing_is ∙ stands) l.1))
            (answers.meant l.0.history l.2.state) in (
              map Body answers.asks,
              q.0,
              ReadsMail answers.asks replies q.1 refl refl,
              record {
                came = record {
                  held = held q.0 stays.known was (moment t).faults stays.ready
                      (record {
                        state = subst (λ (h : MailHistory). IsStateOf h served.state) (sym stays.history) l.2.state;
                        served_is = l.2.served_is ∙ ap (λ (h : MailHistory). h.mail) (sym stays.history);
                      }) q.2;
                  standing_is = stays.standing ∙ here.came.standing_is;
                  in_life = subst (λ (c : ClientState). StandsInLife q.0.left c) (sym gone_is) q.2.in_life;
                  bears = q.2.bears;
                };
                has_life = λ stood. life_stays q.1 (here.has_life stands);
              },
            ));
        leaves = record { alone = these.goes_on.alone; hidden = these.goes_on.hidden };
      }

  lacked : AsksInVain (asking.Answers moment) (asking.Lacks moment) (FailsAfter Replies) s t
      → RequestLacks uploads (at machine client status created (moment s)) m d (at left gone status created (moment t))
  lacked vain =
      let short = asked_in_vain moment vain in
      record {
        run = widen _ short.run (λ es run p was here.
            let l = lent p was (moment s).faults (came_standing here.came) in
            let q = run p was l.3 in (
              q.0,
              LacksReading vain.tried q.1
                  (due_more (FailsAfter Replies) (FailsAfter (RepliesTo m (record { mail = mail_at p; uploads = uploads }) d)) vain.tried
                  (λ asks fails. (
                    fails.0,
                    subst (λ (mail : Mailing). RepliesTo m (record { mail = mail; uploads = uploads }) d asks (Err fails.0))
                        (sym (served_at p l.0 (here.came.standing_is ∙ stands) l.1)) (fails.1 l.0.history l.2.state),
                  )) vain.due),
              subst (λ (c : ClientState). StandsInLife q.0.left c) (sym gone_is) q.2.in_life,
              q.2.bears,
            ));
        leaves = record { alone = short.goes_on.alone; hidden = short.goes_on.hidden };
      }

  by : (came : Result Value MethodError) → AsksAndMeets (asking.Answers moment) (asking.Lacks moment) s t Memory view came Replies
      → Gives (λ r. RequestAnswers uploads (at machine client status created (moment s)) m d r (at left gone status created (moment t)))
      (RequestLacks uploads (at machine client status created (moment s)) m d (at left gone status created (moment t))) came
  by (Ok value) asks = answered (Ok (view value)) asks
  by (Err e) (inl lacks) = inl (lacks.0, lacked lacks.1)
  by (Err e) (inr asks) = inr (answered (Err e) asks)

  -- by the state that was looked at
  pub reads : (state : ServedState) (came : Result Value MethodError) → state ≡ served.state
      → AsksAndMeets (asking.Answers moment) (asking.Lacks moment) s t Memory view came
      (λ asks r. (h : MailHistory) → IsStateOf h state → RepliesTo m (record { mail = Ok h; uploads = uploads }) d asks r)
      → Gives (λ r. RequestAnswers uploads (at machine client status created (moment s)) m d r (at left gone status created (moment t)))
      (RequestLacks uploads (at machine client status created (moment s)) m d (at left gone status created (moment t))) came
  reads state came is meets =
      by came
      (subst (λ (x : ServedState). AsksAndMeets (asking.Answers moment) (asking.Lacks moment) s t Memory view came
      (λ asks r. (h : MailHistory) → IsStateOf h x → RepliesTo m (record { mail = Ok h; uploads = uploads }) d asks r)) is meets)
