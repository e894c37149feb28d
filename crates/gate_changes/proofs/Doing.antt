-- The items of a call over what the machine lends.
use Rattle.std.proofs.Common.{◌≡◌, ◌≢◌, ◌∙◌, ℕ, ◌+◌, List, Option, Some, Err, arith, refl, sym, ap, subst}
use Rattle.gate_world.specs.Causes.{Faults, LinkAlone, RoseBy}
use Rattle.gate_world.specs.declared.event.Event.{Event}
use Rattle.told_mail.specs.Mail.{Mail, IsNextMail}
use Rattle.told_mail.specs.Told.{Told}
use Rattle.imap_client.specs.LinkLife.{LinkLife, ClientState, Stands}
use Rattle.imap_client.specs.Rounds.{CountsOn}
use Rattle.mail_state.specs.History.{MailHistory}
use Rattle.mail_state.specs.State.{ServedState, IsStateOf}
use Rattle.gate_machine.specs.History.{KnownMail}
use Rattle.gate_machine.specs.Holding.{HoldsMachine}
use Rattle.gate_machine.specs.Kept.{ServedMail}
use Rattle.gate_machine.specs.Lending.{HoldsSource, IsLentOf, SourceState}
use Rattle.gate_machine.specs.Machine.{hearing}
use Rattle.gate_machine.specs.Progress.{Bears, CameTo, Progress, StandsInLife, blame_link}
use Rattle.gate_machine.specs.declared.machine.Machine.{Machine}
use Rattle.gate_machine.specs.declared.mail_status.MailStatus.TheVariants as standing
use Rattle.set_order.specs.Ordered.{Item}
use Rattle.set_items.specs.declared.item.ItemEnd.TheVariants.{OutOfMemory}
use Rattle.set_items.specs.Talks.{AllReadKnown}
use Rattle.set_calls.specs.Calls.{SetCall, CallState, RunsItems, call_begun}
use Rattle.gate_changes.specs.Items.{DoesItemsOver, ItemsCame}
use Rattle.gate_changes.specs.reading.Asking.{IsOver}

pub one_known : (j k : KnownMail) → Some j ≡ Some k → j ≡ k
one_known j k is = cc

-- ---- counts

more : (b k was mid now : ℕ) → RoseBy b was mid → RoseBy k mid now → RoseBy (b + k) was now
more b k was mid now one two = omega arith

stays : (b was mid now : ℕ) → RoseBy b was mid → now ≡ mid → RoseBy b was now
stays b was mid now rose is = omega (arith, is)

-- the counts bear what the link's faults in the items are blamed on
bears_more : (lost : ℕ) (b was mid now : Faults) → Bears b was mid → LinkAlone mid now → RoseBy lost mid.link now.link → Bears (blame_link lost b) was now
bears_more lost b was mid now bears alone rose = record {
  link = more b.link lost was.link mid.link now.link bears.link rose;
  keep = stays b.keep was.keep mid.keep now.keep bears.keep alone.keep;
  front = stays b.front was.front mid.front now.front bears.front alone.front;
  say = stays b.say was.say mid.say now.say bears.say alone.say;
}

-- ---- what is lent

-- a source that is put together
pub source_is : (s : SourceState) (told : Told) (bodies : List (ℕ × List ℕ)) (client : ClientState) → told ≡ s.told → bodies ≡ s.bodies → client ≡ s.client
    → record { told = told; bodies = bodies; client = client } ≡ s
source_is s told bodies client a b c = λ i. record { told = a i; bodies = b i; client = c i }

-- what the items of the call came to, in the code's words
pub record HasRun (call : SetCall) (items : List Item) (before : Told) (life : LinkLife) (came : ItemsCame) (events : List Event) (told : Told) (client : ClientState)
    (mid now : ℕ) : Type 0 where
  pub after : CallState
  pub runs : RunsItems call items (call_begun before.mail life) came events after
  pub stands : Stands client after.life
  pub mail_is : after.mail ≡ told.mail
  pub counted : came ≢ Err OutOfMemory → AllReadKnown before.mail after.exchanges → told.changes ≡ before.changes
  pub rose : RoseBy after.lost mid now

abbrev pub NextJoins : Type 0
NextJoins = (a b c : Mail) → IsNextMail a b → IsNextMail b c → IsNextMail a c

module _ (call : SetCall) (before : Progress) (source : SourceState) (served : ServedMail) (was mid : Faults) (over : IsOver call before) (holds : HoldsSource before source was mid)
    (k : KnownMail) (ready : before.machine.known ≡ Some k) (lent : IsLentOf k served) where
  -- the client stands in what is left of the life
  pub in_life : Stands source.client over.life
  in_life = subst (λ (l : Option LinkLife). StandsInLife l source.client) over.in_life holds.in_life

  pub served_is : call.history ≡ k.history
  served_is = over.served ∙ ap (λ (j : KnownMail). j.history) (one_known over.known k (sym over.ready ∙ ready))

  -- the call is over what is served
  pub state_is : (state : ServedState) → state ≡ served.state → IsStateOf call.history state
  state_is state is = subst (λ (s : ServedState). IsStateOf call.history s) (sym is) (subst (λ (h : MailHistory). IsStateOf h served.state) (sym served_is) lent.state)

  held_is : holds.known ≡ k
  held_is = one_known holds.known k (sym holds.ready ∙ ready)

  pub told_was : source.told ≡ k.told
  told_was = holds.told ∙ ap (λ (j : KnownMail). j.told) held_is

  next_was : IsNextMail k.history.mail k.told.mail
  next_was = subst (λ (j : KnownMail). IsNextMail j.history.mail j.told.mail) held_is holds.next

  -- once they are done, and what was lent is taken back
  pub items_done : {items : List Item} {came : ItemsCame} {events : List Event} (told : Told) (client : ClientState) (now : Faults) (later : SourceState) (machine : Machine)
      → before.standing ≡ standing.Stands → HasRun call items source.told over.life came events told client mid.link now.link → CountsOn source.told told
      → IsNextMail source.told.mail told.mail → NextJoins → LinkAlone mid now → later ≡ record { told = told; bodies = source.bodies; client = client }
      → ((p : Progress) (j : KnownMail) (first last : Faults) → p.machine.known ≡ Some j → IsLentOf j served → HoldsSource p later first last → HoldsMachine p.machine machine)
      → (p : Progress) × DoesItemsOver call items before came events p × CameTo machine client standing.Stands was now p
  items_done {items} {came} {events} told client now later machine stands run counts next joins alone later_is taken =
      let p : Progress = record before {
        machine = hearing before.machine k told;
        left = Some run.after.life;
        blamed = blame_link run.after.lost before.blamed;
      } in
      let bears : Bears (blame_link run.after.lost before.blamed) was now = bears_more run.after.lost before.blamed was mid now holds.bears alone run.rose in
      let holds_now : HoldsSource p later was now =
      subst (λ (s : SourceState). HoldsSource p s was now) (sym later_is) (record {
        known = record k { told = told };
        ready = refl;
        told = refl;
        bodies = holds.bodies ∙ ap (λ (j : KnownMail). j.bodies) held_is;
        next = joins k.history.mail k.told.mail told.mail next_was (subst (λ (t : Told). IsNextMail t.mail told.mail) told_was next);
        in_life = run.stands;
        bears = bears;
      }) in (
        p,
        record {
          known = k;
          life = over.life;
          now = run.after;
          told = told;
          stands = stands;
          ready = ready;
          in_life = over.in_life;
          served = served_is;
          runs = subst (λ (t : Told). RunsItems call items (call_begun t.mail over.life) came events run.after) told_was run.runs;
          told_is = sym run.mail_is;
          counts = subst (λ (t : Told). CountsOn t told) told_was counts;
          counted =
              subst (λ (t : Told). came ≢ Err OutOfMemory → AllReadKnown t.mail run.after.exchanges → told.changes ≡ t.changes) told_was run.counted;
          after_is = refl;
        },
        record {
          held = taken p (record k { told = told }) was now refl (record { state = lent.state; served_is = lent.served_is }) holds_now;
          standing_is = stands;
          in_life = run.stands;
          bears = bears;
        },
      )
