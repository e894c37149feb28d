use Rattle.std.proofs.Common.{◌∙◌, refl, sym, subst}
use Rattle.gate_world.specs.Causes.{Faults, LinkAlone}
use Rattle.gate_world.proofs.Joins.{widen}
use Rattle.imap_client.specs.LinkLife.{ClientState}
use Rattle.jmap_core.specs.CreatedIds.{Ids}
use Rattle.jmap_core.specs.Request.{request_data}
use Rattle.gate_calls.specs.RequestMail.{RequestMoment, moment_of}
use Rattle.gate_calls.specs.declared.request_mail.RequestMail.{RequestMail}
use Rattle.gate_machine.specs.Progress.{CameTo}
use Rattle.gate_machine.specs.declared.machine.Machine.{Machine}
use Rattle.gate_machine.specs.declared.mail_status.MailStatus.TheVariants.{Stands}
use Rattle.gate_serving.specs.Doing.{ids_given}
use Rattle.gate_serving.specs.Gates.{account_by}
use Rattle.gate_serving.specs.Requests.{Calls}
use Rattle.gate_serving.specs.declared.gate.Gate.{Gate}
use Rattle.gate_serving.proofs.Answering.{on_err, on_ok}
use Rattle.gate_serving.proofs.Lent.{IsWorkAt, calls_done, calls_leave, finished}
use Rattle.gate_serving.proofs.gate.Gate.answer_calls.Given as given
use Rattle.gate_serving.proofs.gate.Gate.answer_calls.Goals as goal

-- the mail of the request, the outside, and the ids that were created
abbrev State : given.Over → Type 0
State g = (RequestMail × g.row.W.Denot) × Ids

abbrev moment : (g : given.Over) → State g → RequestMoment
moment g s = moment_of s.0.0 s.1 (g.W.Taped.tape s.0.1) (g.W.Taped.faults s.0.1) (g.W.Taped.hidden s.0.1)

abbrev begun : (g : given.Over) → Machine → ClientState → g.row.W.Denot → Ids → State g
begun g machine client world ids = ((record { machine = machine; client = client; status = Stands }, world), ids)

pub returns-clause-run : goal.returns-clause-run
returns-clause-run g c =
    widen _
    (finished c.args.self.now.door (account_by c.args.self.now (g.W.Taped.hidden c.args.world.now)) c.args.self.now.uploads (Calls (request_data c.args.request))
    (IsWorkAt (moment g (begun g c.replace-machine.result c.args.client c.args.world.now (ids_given (request_data c.args.request).created))))
    (g.W.Taped.tape c.args.world.now) c.unless_lacking.new.self.machine c.calls_response-made.new.source.machine c.calls_response-made.new.source.client c.leave.ensures.tape
    c.leave.ensures.cause c.unless_lacking.result c.calls_response-made.result c.unless_lacking.ensures.made
    (calls_done (moment g) c.args.self.now.door (account_by c.args.self.now (g.W.Taped.hidden c.args.world.now)) c.args.self.now.uploads (request_data c.args.request)
    (begun g c.replace-machine.result c.args.client c.args.world.now (ids_given (request_data c.args.request).created))
    ((c.calls_response-made.new.source, c.calls_response-made.new.world), c.calls_response-made.ensures.0) refl refl c.calls_response-made.result
    c.calls_response-made.ensures.1)
    (on_ok (λ (gate : Gate). gate.machine) _ _ c.unless_lacking.result c.unless_lacking.ensures.ok)
    (on_err (λ (gate : Gate). gate.machine.known) _ _ c.unless_lacking.result c.unless_lacking.ensures.err))
    (λ es finishes p was came life. finishes p was (record {
      came = subst (λ (m : Machine). CameTo m c.args.client Stands was (g.W.Taped.faults c.args.world.now) p) (sym c.replace-machine.ensures.value) came;
      has_life = λ stands. life;
    }))

pub returns-clause-alone : goal.returns-clause-alone
returns-clause-alone g c =
    subst (λ (f : Faults). LinkAlone (g.W.Taped.faults c.args.world.now) f) (sym c.leave.ensures.cause)
    (calls_leave (moment g) c.args.self.now.door (account_by c.args.self.now (g.W.Taped.hidden c.args.world.now)) c.args.self.now.uploads (request_data c.args.request)
    (begun g c.replace-machine.result c.args.client c.args.world.now (ids_given (request_data c.args.request).created))
    ((c.calls_response-made.new.source, c.calls_response-made.new.world), c.calls_response-made.ensures.0) c.calls_response-made.result c.calls_response-made.ensures.1).alone

pub returns-clause-hidden : goal.returns-clause-hidden
returns-clause-hidden g c =
    c.leave.ensures.hidden
    ∙ (calls_leave (moment g) c.args.self.now.door (account_by c.args.self.now (g.W.Taped.hidden c.args.world.now)) c.args.self.now.uploads (request_data c.args.request)
    (begun g c.replace-machine.result c.args.client c.args.world.now (ids_given (request_data c.args.request).created))
    ((c.calls_response-made.new.source, c.calls_response-made.new.world), c.calls_response-made.ensures.0) c.calls_response-made.result c.calls_response-made.ensures.1).hidden
