use Rattle.mail_batches.specs.reading.Adding.{IsOther}
use Rattle.mail_batches.proofs.MailLemmas.{no_told, none_other, other_folder, other_uid, told_by_flags, yes_told}
use Rattle.mail_batches.proofs.mail_differences.is_other.Goals as goal

pub returns-in_default : goal.returns-in_default
returns-in_default c =
    no_told (IsOther c.args.before.now.mail c.args.folder c.args.message.now) (none_other c.args.before.now.mail c.args.folder c.args.message.now c.in_default.ensures)

pub returns-then-at-folder : goal.returns-then-at-folder
returns-then-at-folder c =
    yes_told (IsOther c.args.before.now.mail c.args.folder c.args.message.now)
    (other_folder c.args.before.now.mail c.args.folder c.args.message.now c.in-Some.at c.in-Some.was.now c.in-Some.ensures c.if-at-folder.true)

pub returns-then-uid-message : goal.returns-then-uid-message
returns-then-uid-message c =
    yes_told (IsOther c.args.before.now.mail c.args.folder c.args.message.now)
    (other_uid c.args.before.now.mail c.args.folder c.args.message.now c.in-Some.at c.in-Some.was.now c.in-Some.ensures c.if-uid-message.true)

pub returns : goal.returns
returns c =
    told_by_flags c.args.before.now.mail c.args.folder c.args.message.now c.in-Some.at c.in-Some.was.now c.in-Some.ensures c.are_same-same.result c.each_is_mail.ensures
    c.if-at-folder.false c.if-uid-message.false c.are_same-same.ensures
