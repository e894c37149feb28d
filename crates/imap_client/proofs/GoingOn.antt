-- After a plan that is done the life goes on.
use Rattle.std.proofs.Common.{◌≡◌, ◌++◌, true, List, Result, Ok, Err, ℕ, refl, sym, ◌∙◌, ap}
use Rattle.gate_world.specs.declared.event.Event.{Event}
use Rattle.told_folder.specs.declared.exchange.Exchange.{Exchange}
use Rattle.told_mail.specs.Mail.{Mail}
use Rattle.imap_exchange.specs.declared.link_end.LinkEnd.{LinkEnd}
use Rattle.imap_client.specs.declared.plan.Due.{Due}
use Rattle.imap_client.specs.declared.plan.Due.TheVariants as due
use Rattle.imap_client.specs.Bodies.{FetchesBody, body_start}
use Rattle.imap_client.specs.LinkLife.{LinkLife, ClientState, selected}
use Rattle.imap_client.specs.Plans.{Planned, StopsAtRefusal, Ran, Begun, Then, IsEnd, Finished, Failed, Broken, LifeHadEnded, Wanting, Follows}
use Rattle.imap_client.specs.Rounds.{Rounds}
use Rattle.imap_client.proofs.PlanSteps.{done_alive}
use Rattle.imap_client.proofs.RoundSteps.{round_stops, body_stops}

-- after completed exchanges once all is done
ran_on : {plan : Planned} {life after : LinkLife} {heard : List Exchange} {events : List Event} → StopsAtRefusal plan → plan heard ≡ due.Done → Ran plan life heard after events
    → life.goes_on ≡ true → after.goes_on ≡ true
ran_on stops done Begun on = on
ran_on {plan} stops done (Then {heard = heard} next ran) on =
    done_alive {plan = plan} stops done (λ down.
    record { before = heard; command = next.command; last = next.exchange; is = refl; due_is = next.asked; refused = next.completes.refused down })

ends_done : {now : Due} {life left : LinkLife} {events : List Event} → IsEnd now life left (Ok tt) events → (now ≡ due.Done) × (left ≡ life)
ends_done (Finished done is none same) = (done, same)
ends_done (Failed why fails is hangs same) = absurd (cc is)
ends_done (Broken command e sends is breaks) = absurd (cc is)
ends_done (LifeHadEnded command sends over is none same) = absurd (cc is)
ends_done (Wanting is hangs same) = absurd (cc is)

plan_goes_on : {plan : Planned} {life left : LinkLife} {exchanges : List Exchange} {client : ClientState} {events : List Event} → StopsAtRefusal plan
    → Follows plan life left exchanges client (Ok tt) events → life.goes_on ≡ true → left.goes_on ≡ true
plan_goes_on stops follows on =
    let end = ends_done follows.ends in
    ap (λ (l : LinkLife). l.goes_on) end.1 ∙ ran_on stops end.0 follows.ran on

-- after a round
pub round_goes_on : (before after : Mail) (life left : LinkLife) (client : ClientState) (events : List Event) → Rounds before after life left client (Ok tt) events
    → life.goes_on ≡ true → left.goes_on ≡ true
round_goes_on before after life left client events rounds on = plan_goes_on (round_stops _) rounds.follows on

-- after the fetch of a body
pub body_goes_on : (folder uid : ℕ) (before after : Mail) (life left : LinkLife) (client : ClientState) (octets : List ℕ) (events : List Event)
    → FetchesBody folder uid before after life left client (Ok octets) events → life.goes_on ≡ true → left.goes_on ≡ true
body_goes_on folder uid before after life left client octets events fetches on = plan_goes_on (body_stops folder uid (body_start (selected life) before folder)) fetches.follows on
