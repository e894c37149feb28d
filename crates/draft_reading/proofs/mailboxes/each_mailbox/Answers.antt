use Rattle.std.proofs.Common.{◌+◌, ◌∷◌, [], List, Option, IfSome, IfNone, drop, map, ap, ◌∙◌, subst}
use Rattle.std.proofs.lemmas.List.{map-append}
use Rattle.serde_json.specs.Data.{Items}
use Rattle.serde_json.specs.View.{view, items_view}
use Rattle.serde_json.specs.declared.value.Value.{Value}
use Rattle.mail_drafts.specs.declared.mailbox.Mailbox.{Mailbox}
use Rattle.draft_reading.specs.Mailboxes.{said}
use Rattle.draft_reading.specs.reading.Addresses.{IsMailbox, IsNoMailbox, AreNoMailboxes}
use Rattle.draft_reading.proofs.ItemLemmas.{item_at}
use Rattle.draft_reading.proofs.AddressLemmas.{ReadSoFar, mailbox_more, no_mailboxes}
use Rattle.draft_reading.proofs.mailboxes.each_mailbox.Goals as goal

pub returns-in-None-clause-none : goal.returns-in-None-clause-none
returns-in-None-clause-none c =
    let l = c.loop-item in
    let vs = c.deref-item-items.result.now in
    let v = c.item-item.result in
    let left = items_view (drop (l.item-index + 1) vs) in
    let at = item_at vs l.item-index v c.loop-item-test.true c.item-item.is in
    let so = subst (λ (ds : Items). ReadSoFar (items_view vs) (map said l.mailboxes.items) ds) at l.invariant in
    let no_one = subst (λ (o : Option Mailbox). IfNone o (IsNoMailbox (view v))) c.in-None.is c.in_ok-mailbox_in.ensures.none in
    subst (λ (ws : List Value). AreNoMailboxes (items_view ws)) c.deref-item-items.ensures.value (no_mailboxes (items_view vs) (map said l.mailboxes.items) (view v) left so.typed no_one)

pub loop-item-preserved : goal.loop-item-preserved
loop-item-preserved c =
    let l = c.loop-item in
    let vs = c.deref-item-items.result.now in
    let v = c.item-item.result in
    let m = c.in-Some.mailbox in
    let left = items_view (drop (l.item-index + 1) vs) in
    let at = item_at vs l.item-index v c.loop-item-test.true c.item-item.is in
    let so = subst (λ (ds : Items). ReadSoFar (items_view vs) (map said l.mailboxes.items) ds) at l.invariant in
    let some = subst (λ (o : Option Mailbox). IfSome o (λ (x : Mailbox). IsMailbox (view v) (said x))) c.in-Some.is c.in_ok-mailbox_in.ensures.some in
    mailbox_more (items_view vs) (map said l.mailboxes.items) (map said c.push.new.self.items) (view v) left (said m) so some
    (ap (map said) c.in_ok-push-in-Some.ensures.items ∙ map-append said l.mailboxes.items (m ∷ []))
