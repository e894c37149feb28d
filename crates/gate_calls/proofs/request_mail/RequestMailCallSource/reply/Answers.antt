use Rattle.serde_json.specs.View.{view}
use Rattle.gate_calls.specs.RequestMail.{moment_of}
use Rattle.gate_calls.proofs.ChangingMail.{replies_untold}
use Rattle.gate_calls.proofs.request_mail.RequestMailCallSource.reply.Goals as goal

pub returns-in-Some-clause-meant : goal.returns-in-Some-clause-meant
returns-in-Some-clause-meant g c =
    replies_untold c.args.uploads.now (moment_of c.args.self.now c.args.created.now (g.L.Taped.tape c.args.link.now) (g.L.Taped.faults c.args.link.now) (g.L.Taped.hidden c.args.link.now)) c.args.method (view c.args.arguments) c.in-Some.error
    c.in-Some.ensures.error c.reply_without.result (c.reply_without.ensures.meant c.args.uploads.now)
