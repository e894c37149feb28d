use Rattle.std.proofs.Common.{sym}
use Rattle.mail_batches.proofs.MailLemmas.{message_there, no_mark, placed_stands}
use Rattle.mail_batches.proofs.mail_differences.placed.Goals as goal

pub returns-in_default : goal.returns-in_default
returns-in_default c = no_mark c.args.mirror.now.mail c.args.mark c.in_default.ensures

pub unreachable-requires : goal.unreachable-requires
unreachable-requires c = message_there c.args.mirror.now.mail (c.in-Some.folder, c.in-Some.uid) c.args.mark c.in-Some.ensures (sym c.in_default-message.ensures)

pub returns : goal.returns
returns c =
    placed_stands c.args.mirror.now.mail (c.in-Some.folder, c.in-Some.uid) c.args.mark c.in-Some-message.message.now c.in-Some.ensures (sym c.in-Some-message.ensures)
