use Rattle.std.proofs.Common.{Ok, [], refl, ap, sym, subst}
use Rattle.serde_json.specs.Written.{compact_text}
use Rattle.http_service.specs.Refusals.{refusal_status}
use Rattle.jmap_core.specs.Problem.{text_of_problem, status_of as problem_status}
use Rattle.jmap_core.specs.Session.{session_data}
use Rattle.jmap_core.specs.Request.{request_data}
use Rattle.jmap_arguments.specs.declared.method_error.MethodError.TheVariants.{ServerUnavailable}
use Rattle.gate_machine.specs.Progress.{idle}
use Rattle.gate_serving.specs.Answers.{MayKeepUpload, calls_text, empty_answer, json_answer, problem_answer}
use Rattle.gate_serving.specs.Doing.{Comes}
use Rattle.gate_serving.specs.Gates.{account_by}
use Rattle.gate_serving.specs.Requests.{Asking, Problem, Session, Refused}
use Rattle.gate_serving.specs.reading.Askings.{at_once_data}
use Rattle.gate_serving.specs.reading.Replying.{MakesAtOnce}
use Rattle.gate_serving.proofs.Answering.{made_for}
use Rattle.gate_serving.proofs.Doing.{asks_nothing, calls_needless}
use Rattle.gate_serving.proofs.Made.{asked_calls}
use Rattle.gate_serving.proofs.gate.Gate.response.Goals as goal

pub returns-in-Calls-clause-made : goal.returns-in-Calls-clause-made
returns-in-Calls-clause-made g c =
    asked_calls c.calls_without.result (λ r made.
    subst (λ (a : Asking). MakesAtOnce a c.args.self.now c.args.self.now r) (sym (ap at_once_data c.in-Calls.is)) (
      refl,
      (λ secrets m needless. (
        json_answer 200 (calls_text (account_by c.args.self.now secrets).user (account_by c.args.self.now secrets).base made.0 (request_data c.in-Calls.calls.request).created),
        calls_needless (account_by c.args.self.now secrets) c.args.self.now.uploads (request_data c.in-Calls.calls.request) made.0 ServerUnavailable (idle m) needless made.1,
        made.2 secrets,
      )),
    )) c.calls_without.ensures.made

pub returns-in-Problem-clause-made : goal.returns-in-Problem-clause-made
returns-in-Problem-clause-made g c =
    made_for c.args.self.now c.args.self.now (Problem c.in-Problem.error) (at_once_data c.args.asking)
    (problem_answer (problem_status c.in-Problem.error) (text_of_problem c.in-Problem.error)) c.problem_response.result (ap at_once_data c.in-Problem.is) refl
    (λ s m. Comes [] _ asks_nothing) c.problem_response.ensures

pub returns-in-Session-clause-made : goal.returns-in-Session-clause-made
returns-in-Session-clause-made g c =
    made_for c.args.self.now c.args.self.now Session (at_once_data c.args.asking)
    (json_answer 200 (compact_text (session_data c.args.self.now.account.user c.args.self.now.account.base))) c.session_response.result (ap at_once_data c.in-Session.is) refl
    (λ s m. Comes [] _ asks_nothing) c.session_response.ensures

pub returns-in-Upload-clause-made : goal.returns-in-Upload-clause-made
returns-in-Upload-clause-made g c =
    asked_calls c.keep.result (λ r made.
    subst (λ (a : Asking). MakesAtOnce a c.args.self.now c.keep.new.self r) (sym (ap at_once_data c.in-Upload.is)) made) c.keep.ensures.made

pub returns-in-Upload-clause-may : goal.returns-in-Upload-clause-may
returns-in-Upload-clause-may g c =
    subst (λ (a : Asking). MayKeepUpload a c.args.self.now.uploads c.keep.new.self.uploads) (sym (ap at_once_data c.in-Upload.is)) c.keep.ensures.may

pub returns-in-Refused-clause-made : goal.returns-in-Refused-clause-made
returns-in-Refused-clause-made g c =
    made_for c.args.self.now c.args.self.now (Refused c.in-Refused.refusal) (at_once_data c.args.asking) (empty_answer (refusal_status c.in-Refused.refusal))
    (Ok c.empty.result) (ap at_once_data c.in-Refused.is) refl (λ s m. Comes [] _ asks_nothing) c.empty.ensures
