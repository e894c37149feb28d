use Rattle.told_mail.proofs.ListLemmas.{named_told, named_known}
use Rattle.std.proofs.Common.{◌≡◌}
use Rattle.told_mail.proofs.mirror.Mirror.tell_named.Goals as goal

pub returns-in-Some-clause-ok : goal.returns-in-Some-clause-ok
returns-in-Some-clause-ok c =
    named_told c.args.self.now.mail c.tell_at.new.self.mail c.args.command.now c.args.responses.now c.args.name.now c.in-Some.at _ c.in-Some.ensures c.tell_at.ensures.ok

pub returns-in-Some-clause-known : goal.returns-in-Some-clause-known
returns-in-Some-clause-known c =
    named_known c.args.self.now.mail c.args.command.now c.args.responses.now c.args.name.now c.in-Some.at (c.tell_at.new.self.changes ≡ c.args.self.now.changes) c.tell_at.result
    c.in-Some.ensures c.tell_at.ensures.known
