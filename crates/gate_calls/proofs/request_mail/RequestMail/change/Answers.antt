use Rattle.serde_json.specs.View.{view}
use Rattle.gate_calls.specs.RequestMail.{moment_of}
use Rattle.gate_calls.proofs.ChangingMail.{refused}
use Rattle.gate_calls.proofs.request_mail.RequestMail.change.Goals as goal

pub returns-in-Ok : goal.returns-in-Ok
returns-in-Ok g c = record {
  meant = c.change_asked.ensures.meant (view c.args.arguments.now) c.in-Ok.ensures;
  whole = c.change_asked.ensures.whole;
}

pub returns-in-Err : goal.returns-in-Err
returns-in-Err g c = record {
  meant =
      refused c.args.uploads.now
      (moment_of c.args.self.now c.args.created.now (g.L.Taped.tape c.args.link.now) (g.L.Taped.faults c.args.link.now) (g.L.Taped.hidden c.args.link.now))
      c.args.method (view c.args.arguments.now) c.in-Err.refusal c.requires.stands c.requires.known c.in-Err.ensures;
  whole = tt;
}
