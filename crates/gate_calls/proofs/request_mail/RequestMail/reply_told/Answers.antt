use Rattle.std.proofs.Common.{sym, subst}
use Rattle.serde_json.specs.View.{view}
use Rattle.gate_calls.specs.RequestMail.{RequestAnswers, RequestLacks, moment_of}
use Rattle.gate_calls.specs.Sources.{Gives}
use Rattle.gate_calls.specs.declared.method.Method.{Method}
use Rattle.gate_calls.proofs.request_mail.RequestMail.reply_told.Goals as goal

pub returns-in-Set-clause-meant : goal.returns-in-Set-clause-meant
returns-in-Set-clause-meant g c =
    subst (λ (m : Method). Gives (λ r. RequestAnswers c.args.uploads.now (moment_of c.args.self.now c.args.created.now (g.L.Taped.tape c.args.link.now) (g.L.Taped.faults c.args.link.now) (g.L.Taped.hidden c.args.link.now)) m (view c.args.arguments) r
    (moment_of c.change.new.self c.change.new.created (g.L.Taped.tape c.change.new.link) (g.L.Taped.faults c.change.new.link) (g.L.Taped.hidden c.change.new.link)))
    (RequestLacks c.args.uploads.now (moment_of c.args.self.now c.args.created.now (g.L.Taped.tape c.args.link.now) (g.L.Taped.faults c.args.link.now) (g.L.Taped.hidden c.args.link.now)) m (view c.args.arguments)
    (moment_of c.change.new.self c.change.new.created (g.L.Taped.tape c.change.new.link) (g.L.Taped.faults c.change.new.link) (g.L.Taped.hidden c.change.new.link)))
    c.change.result) (sym c.in-Set.is) c.change.ensures.meant

pub returns-in_default-clause-meant : goal.returns-in_default-clause-meant
returns-in_default-clause-meant g c = c.read.ensures.meant c.args.created.now
