use Rattle.std.proofs.Common.{List, ◌∙◌, ap, subst}
use Rattle.told_folder.specs.declared.message.NumberedFolder.{NumberedFolder}
use Rattle.mail_maps.specs.Mailboxes.{mailboxes_of}
use Rattle.mail_maps.specs.Threads.{threads_of}
use Rattle.mail_rows.specs.NumberedRows.{NumberedRows}
use Rattle.mail_rows.proofs.IndexLemmas.{as_under}
use Rattle.mail_state.specs.State.{ServedRows}
use Rattle.mail_state.specs.Following.{Touches}
use Rattle.mail_state.specs.reading.Noting.{StepsRows}
use Rattle.mail_state.proofs.EmailLemmas.{InOrder}
use Rattle.mail_state.proofs.KeptMailboxes.{boxes_stay, boxes_are}
use Rattle.mail_state.proofs.TouchedThreads.{others_follow}
use Rattle.mail_state.proofs.FollowLemmas.{steps_rows}
use Rattle.mail_state.proofs.rows.TypeRows.follow.Goals as goal

pub invariant_of-rows : goal.invariant_of-rows
invariant_of-rows c =
    let old : NumberedRows = c.self.inside.emails in
    let now : NumberedRows = c.in_ok-emails.emails in
    let hs : List NumberedFolder = c.args.mirror.now.mail.folders in
    let order : InOrder old = record { sorted = c.are_in_order.ensures.sorted; under = as_under old.next old.rows c.are_in_order.ensures.below } in
    let boxes = c.in_ok-mailboxes.ensures.steps (boxes_stay old hs now c.self.inside.folders.items c.self.inside.mailboxes.entries _ _ order c.in_ok-emails.ensures.takes
    c.self.invariant.1 c.rows-now.ensures (c.as_slice.ensures.value ∙ c.in_ok-emails.ensures.touches)) in
    let steps = c.in_ok-threads.ensures (others_follow old hs now c.self.inside.threads.entries _ _ order c.in_ok-emails.ensures.takes
    c.self.invariant.0 c.rows-now.ensures (c.as_slice-2.ensures.value ∙ c.in_ok-emails.ensures.touches)) in (
      steps.threads ∙ ap threads_of c.rows-now.ensures,
      boxes_are hs c.rows-now.result.now.entries now.rows c.in_ok-mailboxes.folders.items c.in_ok-mailboxes.mailboxes.entries boxes.mailboxes
          c.in_ok-mailboxes.ensures.folders c.rows-now.ensures,
    )

pub returns : goal.returns
returns c =
    let before : ServedRows = record { numbered = c.self.inside.emails; mailboxes = c.self.inside.mailboxes.entries; threads = c.self.inside.threads.entries } in
    let now : ServedRows = record { numbered = c.in_ok-emails.emails; mailboxes = c.in_ok-mailboxes.mailboxes.entries; threads = c.in_ok-threads.threads.entries } in
    let touches : Touches = record { mailbox = c.in_ok-mailboxes.mailbox.items; email = c.in_ok-emails.email.items; thread = c.in_ok-threads.thread.items } in
    let hs : List NumberedFolder = c.args.mirror.now.mail.folders in
    let order : InOrder before.numbered = record {
      sorted = c.are_in_order.ensures.sorted;
      under = as_under before.numbered.next before.numbered.rows c.are_in_order.ensures.below;
    } in
    let boxes = c.in_ok-mailboxes.ensures.steps (boxes_stay before.numbered hs now.numbered c.self.inside.folders.items before.mailboxes _ _ order c.in_ok-emails.ensures.takes
    c.self.invariant.1 c.rows-now.ensures (c.as_slice.ensures.value ∙ c.in_ok-emails.ensures.touches)) in
    let steps = c.in_ok-threads.ensures (others_follow before.numbered hs now.numbered before.threads _ _ order c.in_ok-emails.ensures.takes
    c.self.invariant.0 c.rows-now.ensures (c.as_slice-2.ensures.value ∙ c.in_ok-emails.ensures.touches)) in
    let S : ServedRows → Type 0 = λ s. StepsRows s c.args.mirror.now.mail now touches in
    subst S c.self.view_is (steps_rows before c.args.mirror.now.mail now.numbered now.mailboxes now.threads touches
    c.in_ok-emails.ensures.takes
    (boxes.mailboxes ∙ ap (mailboxes_of hs) c.rows-now.ensures)
    (steps.threads ∙ ap threads_of c.rows-now.ensures)
    boxes.touches c.in_ok-emails.ensures.touches steps.touches c.in_ok-emails.ensures.counted)
