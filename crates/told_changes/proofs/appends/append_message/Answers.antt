use Rattle.std.proofs.Common.{◌≡◌, ◌∙◌, ◌<◌, ℕ, List, ap, refl, sym, subst, arith}
use Rattle.std.proofs.Common.{ℤ, w64}
use Rattle.std.proofs.lemmas.Int.{to_z-of_z}
use Rattle.told_folder.specs.Folders.{message_in}
use Rattle.told_folder.specs.declared.message.Message.{Message}
use Rattle.told_mail.specs.Mail.{with_message}
use Rattle.told_changes.specs.Changes.{appended_message}
use Rattle.told_changes.proofs.Appending.{appended_steps, next_is_free}
use Rattle.told_changes.proofs.Steps.{steps_none}
use Rattle.told_changes.proofs.appends.append_message.Goals as goal

pub put_message-requires-clause-there : goal.put_message-requires-clause-there
put_message-requires-clause-there c = c.requires.free.there

pub put_message-requires-clause-new_uid : goal.put_message-requires-clause-new_uid
put_message-requires-clause-new_uid c =
    ap (λ (x : Message). message_in c.args.mirror.now.mail.folders c.args.landing.folder x.uid) c.in_ok-appended.ensures ∙ c.requires.free.free

pub put_message-requires-clause-new_mark : goal.put_message-requires-clause-new_mark
put_message-requires-clause-new_mark c =
    next_is_free c.args.mirror.now.mail c.each_is_mail.ensures c.in_ok-appended.appended.mark
    (ap (λ (x : Message). x.mark) c.in_ok-appended.ensures ∙ c.next_mark-mark.ensures)

pub put_message-requires-clause-mark : goal.put_message-requires-clause-mark
put_message-requires-clause-mark c = λ above.
    let is : c.in_ok-appended.appended.mark ≡ c.args.mirror.now.mail.next_mark = ap (λ (x : Message). x.mark) c.in_ok-appended.ensures ∙ c.next_mark-mark.ensures in
    absurd (omega (arith, above, is, c.requires.mark))

pub returns-in_err-appended-clause-steps : goal.returns-in_err-appended-clause-steps
returns-in_err-appended-clause-steps c = steps_none _ _ c.each_is_mail.ensures refl

pub returns-in_err-put_message-clause-steps : goal.returns-in_err-put_message-clause-steps
returns-in_err-put_message-clause-steps c = steps_none _ _ c.each_is_mail.ensures c.in_err-put_message.ensures.err

pub returns-clause-ok : goal.returns-clause-ok
returns-clause-ok c =
    c.in_ok-put_message.ensures.ok
    ∙ ap (λ (x : Message). with_message c.args.mirror.now.mail c.args.landing.folder x)
    (c.in_ok-appended.ensures
    ∙ ap (λ (d : ℤ). appended_message c.next_mark-mark.result c.args.landing.uid c.args.flags.now d c.args.message.now) (to_z-of_z w64 c.args.date c.ranges.date)
    ∙ ap (λ (k : ℕ). appended_message k c.args.landing.uid c.args.flags.now c.args.date c.args.message.now) c.next_mark-mark.ensures)

pub returns-clause-steps : goal.returns-clause-steps
returns-clause-steps c =
    appended_steps _ _ c.args.landing c.args.flags.now c.args.date c.args.message.now c.each_is_mail.ensures
    (c.in_ok-put_message.ensures.ok
    ∙ ap (λ (x : Message). with_message c.args.mirror.now.mail c.args.landing.folder x)
    (c.in_ok-appended.ensures
    ∙ ap (λ (d : ℤ). appended_message c.next_mark-mark.result c.args.landing.uid c.args.flags.now d c.args.message.now) (to_z-of_z w64 c.args.date c.ranges.date)
    ∙ ap (λ (k : ℕ). appended_message k c.args.landing.uid c.args.flags.now c.args.date c.args.message.now) c.next_mark-mark.ensures))
    c.in_ok-put_message.ensures.counted
