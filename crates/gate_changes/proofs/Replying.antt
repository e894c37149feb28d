-- A call is answered by what its items came to.
use Rattle.std.proofs.Common.{◌≡◌, ◌≢◌, ◌∙◌, ℕ, true, false, IsSome, List, [], Option, Some, None, Result, Ok, Err, refl, sym, ap, subst, map, Vec, Global}
use Rattle.std.specs.Prelude.{IfErr, IfOk, OnOk}
use Rattle.gate_world.specs.Causes.{Faults}
use Rattle.gate_world.specs.declared.event.Event.{Event}
use Rattle.serde_json.specs.Data.{Data}
use Rattle.serde_json.specs.View.{view}
use Rattle.serde_json.specs.declared.value.Value.{Value}
use Rattle.imap_client.specs.LinkLife.{ClientState}
use Rattle.jmap_core.specs.CreatedIds.{Ids}
use Rattle.jmap_arguments.specs.declared.method_error.MethodError.{MethodError}
use Rattle.jmap_arguments.specs.declared.method_error.MethodError.TheVariants.{Memory, StateMismatch}
use Rattle.mail_state.specs.History.{MailHistory}
use Rattle.mail_state.specs.State.{IsStateOf, ServedState}
use Rattle.gate_machine.specs.History.{KnownMail}
use Rattle.gate_machine.specs.Holding.{AreBothReady, HoldsMachine}
use Rattle.gate_machine.specs.Kept.{KeptMail}
use Rattle.gate_machine.specs.Machine.{MachineState}
use Rattle.gate_machine.specs.Progress.{CameTo, Progress}
use Rattle.gate_machine.specs.declared.machine.Machine.{Machine}
use Rattle.gate_machine.specs.declared.mail_status.MailStatus.{MailStatus}
use Rattle.set_arguments.specs.Arguments.{SetAsked}
use Rattle.set_arguments.specs.declared.set_method.SetMethod.{SetMethod}
use Rattle.set_jobs.specs.declared.done.Done.{Done}
use Rattle.set_order.specs.Ordered.{Item, ItemsOf}
use Rattle.set_order.specs.declared.item.Item.{Item as CodeItem}
use Rattle.set_calls.specs.declared.call.CallEnd.{CallEnd}
use Rattle.set_calls.specs.declared.call.CallEnd.TheVariants as ends
use Rattle.set_calls.specs.reading.Calling.{done_data}
use Rattle.set_calls.specs.Calls.{SetCall}
use Rattle.set_replies.specs.Created.{created_with}
use Rattle.set_replies.specs.Replies.{set_reply}
use Rattle.set_replies.specs.States.{place_of}
use Rattle.gate_changes.specs.Changing.{ChangesMail, Committed, SpentBy, FailedInPart, LacksChange, where_committed}
use Rattle.gate_changes.specs.Items.{ItemsCame}
use Rattle.gate_changes.specs.Answering.{ChangeState, ItemChecks, call_of, is_current, Replies, Fails, Mismatch, Changes, BeforeItems, Meanwhile, Unanswered}
use Rattle.gate_changes.specs.reading.Answers.{AnswersTo, IsServed, error_of}
use Rattle.gate_changes.specs.reading.Asking.{ChangesTo, IsOver}

-- ---- errors

committed_error : (came : ItemsCame) (e : MethodError) → Err e ≡ where_committed came → e ≢ Memory
committed_error (Ok done) e is = absurd (cc)
committed_error (Err end) e is = λ same. cc

-- a call that changes mail ends with no error that stands for memory
never_memory : {call : SetCall} {items : List Item} {before after : Progress} {events : List Event} (e : MethodError) → ChangesMail call items before (Err e) events after
    → e ≢ Memory
never_memory e (Committed came mid does goes settles stands is) = committed_error came e is
never_memory e (SpentBy came mid spent doing ending does goes settles why hangs whole is error) = λ same. cc
never_memory e (FailedInPart mid doing ending does hangs whole is error) = λ same. cc

-- ---- the machine

-- a machine that is ready is held by one that is
pub known_of : (m : MachineState) (machine : Machine) → HoldsMachine m machine → IsSome machine.known → (k : KnownMail) × (m.known ≡ Some k)
known_of m machine held some = by m.known machine.known held.ready some
  where
    by : (o : Option KnownMail) (a : Option KeptMail) → AreBothReady o a → IsSome a → (k : KnownMail) × (o ≡ Some k)
    by None None ready is = absurd (cc is)
    by (Some k) (Some a) ready is = (k, refl)
    by None (Some a) ready is = absurd ready
    by (Some k) None ready is = absurd ready

-- the state that it serves stands for the history that is served
pub stands_for : (h : MailHistory) (p : Progress) (machine : Machine) (s : ServedState) → IsServed h p → HoldsMachine p.machine machine
    → ((m : MachineState) (k : KnownMail) → HoldsMachine m machine → m.known ≡ Some k → IsStateOf k.history s) → IsStateOf h s
stands_for h p machine s so held state = subst (λ (x : MailHistory). IsStateOf x s) (sym so.served) (state p.machine so.known held so.ready)

-- ---- answers

pub is_over : (checks : ItemChecks) (m : SetMethod) (a : SetAsked) (h : MailHistory) (created : Ids) (p : Progress) → IsServed h p → IsOver (call_of checks m a h created) p
is_over checks m a h created p so = record { known = so.known; life = so.life; ready = so.ready; in_life = so.in_life; served = so.served }

module _ (checks : ItemChecks) (m : SetMethod) (a : SetAsked) (h : MailHistory) (start : ChangeState) (machine : Machine) (client : ClientState) (how : MailStatus) (was now : Faults) where
  -- its state isn't the one that there is
  pub mismatched : (created : Ids) → start.created ≡ created → is_current m a h ≡ false → CameTo machine client how was now start.progress
      → AnswersTo checks m a h start (Err StateMismatch) created machine client how was now []
  mismatched created created_is not at = record {
    lacks = λ is. absurd (cc is);
    answered = λ other. record { after = start; changes = Mismatch not refl refl refl; created_is = sym created_is; at = at };
  }

  -- there is no memory for its items
  pub lacked_first : (created : Ids) → CameTo machine client how was now start.progress → AnswersTo checks m a h start (Err Memory) created machine client how was now []
  lacked_first created at = record {
    lacks = λ is. record { after = start.progress; lacks = BeforeItems refl refl; at = at };
    answered = λ other. absurd (other refl);
  }

  module _ (items : List Item) (es : List Event) (after : Progress) (is : is_current m a h ≡ true) (of : ItemsOf m start.created a items) (at : CameTo machine client how was now after) where
    pub replied : (done : List (Item × Done)) (k : KnownMail) (value : Value) (created : Ids) → ChangesMail (call_of checks m a h start.created) items start.progress (Ok done) es after
        → after.machine.known ≡ Some k → view value ≡ set_reply m (place_of m h) k.history done → created ≡ created_with k.history start.created done
        → AnswersTo checks m a h start (Ok value) created machine client how was now es
    replied done k value created changes known reply created_is = record {
      lacks = λ wrong. absurd (cc wrong);
      answered = λ other. record {
        after = record { progress = after; created = created };
        changes = Changes items (Ok done) is of changes (Replies done k refl known (ap (λ (d : Data). Ok d) reply) created_is);
        created_is = refl;
        at = at;
      };
    }

    pub unanswered : (done : List (Item × Done)) (created : Ids) → ChangesMail (call_of checks m a h start.created) items start.progress (Ok done) es after
        → AnswersTo checks m a h start (Err Memory) created machine client how was now es
    unanswered done created changes = record {
      lacks = λ same. record { after = after; lacks = Unanswered items (Ok done) is of changes; at = at };
      answered = λ other. absurd (other refl);
    }

    pub failed : (e : MethodError) (created : Ids) → start.created ≡ created → ChangesMail (call_of checks m a h start.created) items start.progress (Err e) es after
        → AnswersTo checks m a h start (Err e) created machine client how was now es
    failed e created created_is changes = record {
      lacks = λ same. absurd (never_memory e changes (cc same));
      answered = λ other. record {
        after = record { progress = after; created = start.created };
        changes = Changes items (Err e) is of changes (Fails e refl refl refl);
        created_is = sym created_is;
        at = at;
      };
    }

    pub lacked_later : (created : Ids) → LacksChange (call_of checks m a h start.created) items start.progress es after
        → AnswersTo checks m a h start (Err Memory) created machine client how was now es
    lacked_later created lacks = record {
      lacks = λ same. record { after = after; lacks = Meanwhile items is of lacks; at = at };
      answered = λ other. absurd (other refl);
    }

  -- all items were done: `shown` is what they came to
  pub answered_done : (items : List Item) (es : List Event) → is_current m a h ≡ true → ItemsOf m start.created a items → (done : Vec (CodeItem × Done) Global)
      (shown : List (CodeItem × Done)) → shown ≡ done.items → ChangesTo (call_of checks m a h start.created) items start.progress (Ok done) machine client how was now es
      → IsSome machine.known → (result : Result Value MethodError) (old created : Ids) (place : ℕ) → start.created ≡ old → place ≡ place_of m h
      → ((n : MachineState) (k : KnownMail) → HoldsMachine n machine → n.known ≡ Some k → OnOk result (created ≡ created_with k.history old (map done_data shown))
      × IfOk result (λ value. view value ≡ set_reply m place k.history (map done_data shown)))
      → IfErr result (λ e. e ≡ Memory) → AnswersTo checks m a h start result created machine client how was now es
  answered_done items es is of done shown same to ready (Ok value) old created place old_is place_is reply memory =
      let k = known_of to.after.machine machine to.at.held ready in
      let r = reply to.after.machine k.0 to.at.held k.1 in
      let as_shown : List (CodeItem × Done) → List (Item × Done) = map done_data in
      replied items es to.after is of to.at (map done_data done.items) k.0 value created to.changes k.1
      (r.1
      ∙ (ap (λ (n : ℕ). set_reply m n k.0.history (as_shown shown)) place_is
      ∙ ap (λ (xs : List (CodeItem × Done)). set_reply m (place_of m h) k.0.history (as_shown xs)) same))
      (r.0
      ∙ (ap (λ (ids : Ids). created_with k.0.history ids (as_shown shown)) (sym old_is)
      ∙ ap (λ (xs : List (CodeItem × Done)). created_with k.0.history start.created (as_shown xs)) same))
  answered_done items es is of done shown same to ready (Err e) old created place old_is place_is reply memory =
      subst (λ (x : MethodError). AnswersTo checks m a h start (Err x) created machine client how was now es) (sym memory)
      (unanswered items es to.after is of to.at (map done_data done.items) created to.changes)

  -- or the call ended so
  pub answered_end : (items : List Item) (es : List Event) → is_current m a h ≡ true → ItemsOf m start.created a items → (end : CallEnd)
      → ChangesTo (call_of checks m a h start.created) items start.progress (Err end) machine client how was now es → (created : Ids) → start.created ≡ created
      → AnswersTo checks m a h start (Err (error_of end)) created machine client how was now es
  answered_end items es is of (ends.Fails e) to created created_is = failed items es to.after is of to.at e created created_is to.changes
  answered_end items es is of ends.Memory to created created_is = lacked_later items es to.after is of to.at created to.changes
