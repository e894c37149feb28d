-- What the items told is served, or the call breaks off what its request does over the link.
use Rattle.std.proofs.Common.{◌≡◌, ◌++◌, ◌∙◌, List, [], Result, Ok, Err, refl, sym, ap, subst, map, inl, inr, Vec, Global}
use Rattle.std.proofs.lemmas.List.{append-nil}
use Rattle.gate_world.specs.Causes.{Faults}
use Rattle.gate_world.specs.declared.event.Event.{Event}
use Rattle.imap_exchange.specs.Answering.{HangsUp}
use Rattle.imap_client.specs.LinkLife.{ClientState}
use Rattle.jmap_arguments.specs.declared.method_error.MethodError.{MethodError}
use Rattle.jmap_arguments.specs.declared.method_error.MethodError.TheVariants.{ServerUnavailable, ServerPartialFail, ServerFail}
use Rattle.gate_machine.specs.Beginning.{Settles, Same, Moves, Spends, Lacks}
use Rattle.gate_machine.specs.Holding.{unready}
use Rattle.gate_machine.specs.Progress.{CameTo, Progress, is_up, out_of_memory}
use Rattle.gate_machine.specs.declared.machine.Machine.{Machine}
use Rattle.gate_machine.specs.declared.mail_status.MailFailure.{MailFailure}
use Rattle.gate_machine.specs.declared.mail_status.MailFailure.TheVariants as failure
use Rattle.gate_machine.specs.declared.mail_status.MailStatus.{MailStatus}
use Rattle.gate_machine.specs.declared.mail_status.MailStatus.TheVariants as standing
use Rattle.set_jobs.specs.declared.done.Done.{Done}
use Rattle.set_order.specs.Ordered as spec
use Rattle.set_order.specs.declared.item.Item.{Item}
use Rattle.set_items.specs.declared.item.ItemEnd.TheVariants.{Ends, OutOfMemory}
use Rattle.set_calls.specs.Calls.{SetCall}
use Rattle.set_calls.specs.declared.call.CallEnd.{CallEnd}
use Rattle.set_calls.specs.declared.call.CallEnd.TheVariants as ends
use Rattle.set_calls.specs.reading.Calling.{came_data, done_data}
use Rattle.gate_changes.specs.Changing.{DoesCourse, GoesToCommit, Committed, SpentBy, FailedInPart, InItems, InCommit, broken_off}
use Rattle.gate_changes.specs.Items.{ItemsCame}
use Rattle.gate_changes.specs.reading.Asking.{ChangesTo, IsLeft}
use Rattle.gate_changes.proofs.Ends.{course_either, unavailable_only}

-- ---- the commit

unserved_spent : {before after : Progress} {events : List Event} (why : MailFailure) → Settles before events after → after.standing ≡ standing.Unserved why
    → after.standing ≡ standing.Unserved failure.Spent
unserved_spent why (Same k stands known same none is) un = absurd (cc (sym (ap (λ (p : Progress). p.standing) is ∙ stands) ∙ un))
unserved_spent why (Moves new next goes room none is) un = absurd (cc (sym (ap (λ (p : Progress). p.standing) is ∙ new.stands) ∙ un))
unserved_spent why (Spends new spent none is) un = ap (λ (p : Progress). p.standing) is
unserved_spent why (Lacks stands none is) un = absurd (cc (sym (ap (λ (p : Progress). p.standing) is) ∙ un))

module _ (call : SetCall) (items : List spec.Item) (before mid : Progress) (doing : List Event) (was : Faults) where
  with_none : {came : ItemsCame} → DoesCourse call items before came doing mid → DoesCourse call items before came (doing ++ []) mid
  with_none {came} does = subst (λ (es : List Event). DoesCourse call items before came es mid) (sym (append-nil doing)) does

  -- it stands
  pub committed : (came : Result (Vec (Item × Done) Global) CallEnd) (machine : Machine) (client : ClientState) (now : Faults)
      → DoesCourse call items before (came_data came) doing mid → GoesToCommit (came_data came)
      → (p : Progress) × Settles mid [] p × CameTo machine client standing.Stands was now p
      → ChangesTo call items before came machine client standing.Stands was now (doing ++ [])
  committed (Ok done) machine client now does goes (p, settles, at) = record {
    after = p;
    changes = Committed (Ok (map done_data done.items)) mid (with_none does) goes settles at.standing_is refl;
    at = at;
  }
  committed (Err (ends.Fails e)) machine client now does goes (p, settles, at) = record {
    after = p;
    changes = Committed (Err (Ends e)) mid (with_none does) goes settles at.standing_is (ap (λ (x : MethodError). Err x) (unavailable_only e goes));
    at = at;
  }
  committed (Err ends.Memory) machine client now does goes so = absurd goes

  -- a place would pass the last one
  pub spent_by : (came : ItemsCame) (result : Result (Vec (Item × Done) Global) CallEnd) (machine : Machine) (client left : ClientState) (why : MailFailure) (how : MailStatus) (now last : Faults) (ending : List Event)
      → DoesCourse call items before came doing mid → GoesToCommit came → (p : Progress) × Settles mid [] p × CameTo machine client (standing.Unserved why) was now p
      → result ≡ Err (ends.Fails ServerFail)
      → ((p : Progress) → CameTo machine client (standing.Unserved why) was now p → HangsUp (is_up p.left) ending × CameTo machine left how was last (broken_off p))
      → ChangesTo call items before result machine left how was last (doing ++ ending)
  spent_by came result machine client left why how now last ending does goes (p, settles, at) is breaks =
      let b = breaks p at in
      subst (λ (r : Result (Vec (Item × Done) Global) CallEnd). ChangesTo call items before r machine left how was last (doing ++ ending)) (sym is) (record {
        after = broken_off p;
        changes = SpentBy came mid p doing ending does goes settles (unserved_spent why settles at.standing_is) b.0 refl refl refl;
        at = b.1;
      })

  -- there is no memory for it
  pub lacked : (came : ItemsCame) (machine : Machine) (client : ClientState) (now : Faults) → DoesCourse call items before came doing mid → GoesToCommit came
      → (p : Progress) × Settles mid [] p × CameTo machine client standing.OutOfMemory was now p
      → ChangesTo call items before (Err ends.Memory) machine client standing.OutOfMemory was now (doing ++ [])
  lacked came machine client now does goes (p, settles, at) = record {
    after = p;
    changes = InCommit came mid (with_none does) goes settles at.standing_is;
    at = at;
  }

  -- ---- without a commit

  partly : (error : MethodError) (machine : Machine) (left : ClientState) (how : MailStatus) (last : Faults) (ending : List Event) → error ≡ ServerPartialFail
      → DoesCourse call items before (Err (Ends error)) doing mid → HangsUp (is_up mid.left) ending → CameTo machine left how was last (broken_off mid)
      → ChangesTo call items before (Err (ends.Fails error)) machine left how was last (doing ++ ending)
  partly error machine left how last ending is does hangs at = record {
    after = broken_off mid;
    changes =
        FailedInPart mid doing ending (subst (λ (e : MethodError). DoesCourse call items before (Err (Ends e)) doing mid) is does) hangs refl refl
        (ap (λ (e : MethodError). Err e) is);
    at = at;
  }

  -- the call failed in part
  pub failed_partly : (error : MethodError) (result : Result (Vec (Item × Done) Global) CallEnd) (machine : Machine) (left : ClientState) (how : MailStatus) (last : Faults) (ending : List Event) → (error ≡ ServerUnavailable → ⊥)
      → DoesCourse call items before (Err (Ends error)) doing mid → result ≡ Err (ends.Fails error)
      → HangsUp (is_up mid.left) ending × CameTo machine left how was last (broken_off mid)
      → ChangesTo call items before result machine left how was last (doing ++ ending)
  failed_partly error result machine left how last ending other does is breaks =
      subst (λ (r : Result (Vec (Item × Done) Global) CallEnd). ChangesTo call items before r machine left how was last (doing ++ ending)) (sym is)
      (elim (course_either error does) [
        | inl part ↦ partly error machine left how last ending part does breaks.0 breaks.1
        | inr same ↦ absurd (other same)
      ])

  -- there was no memory for the items
  pub lacked_items : (machine : Machine) (client : ClientState) (now : Faults) → DoesCourse call items before (Err OutOfMemory) doing mid
      → IsLeft mid client was now
      → ChangesTo call items before (Err ends.Memory) (unready machine) client standing.OutOfMemory was now (doing ++ [])
  lacked_items machine client now does at = record {
    after = out_of_memory mid;
    changes = InItems mid (with_none does) refl;
    at = record { held = record { ready = tt }; standing_is = refl; in_life = at.in_life; bears = at.bears };
  }
