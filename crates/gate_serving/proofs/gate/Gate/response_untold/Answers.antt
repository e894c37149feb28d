use Rattle.std.proofs.Common.{[], Some, ap, sym, subst}
use Rattle.serde_json.specs.Written.{compact_text}
use Rattle.jmap_core.specs.Request.{request_data}
use Rattle.gate_serving.specs.Answers.{Answer, calls_text, json_answer, problem_answer, untold_problem}
use Rattle.gate_serving.specs.Doing.{Does}
use Rattle.gate_serving.specs.Gates.{account_by}
use Rattle.gate_serving.specs.Requests.{Account, Asking}
use Rattle.gate_serving.specs.reading.Askings.{over_mail_data}
use Rattle.gate_serving.proofs.Doing.{calls_untold, download_untold}
use Rattle.gate_serving.proofs.Made.{asked_calls}
use Rattle.gate_serving.proofs.gate.Gate.response_untold.Goals as goal

pub returns-in-Calls-clause-made : goal.returns-in-Calls-clause-made
returns-in-Calls-clause-made g c =
    asked_calls c.calls_without.result (λ r made secrets p is.
    let account : Account = account_by c.args.self.now secrets in
    let answer : Answer = json_answer 200 (calls_text account.user account.base made.0 (request_data c.in-Calls.calls.request).created) in (
      answer,
      subst (λ (a : Asking). Does account c.args.self.now.uploads a p [] p (Some answer)) (sym (ap over_mail_data c.in-Calls.is))
          (calls_untold account c.args.self.now.uploads (request_data c.in-Calls.calls.request) made.0 c.args.error p is made.1),
      made.2 secrets,
    )) c.calls_without.ensures.made

pub returns-clause-made : goal.returns-clause-made
returns-clause-made g c =
    asked_calls c.untold_response.result (λ r text_is secrets p is.
    let account : Account = account_by c.args.self.now secrets in
    let answer : Answer = problem_answer 404 (compact_text untold_problem) in (
      answer,
      subst (λ (a : Asking). Does account c.args.self.now.uploads a p [] p (Some answer)) (sym (ap over_mail_data c.in-Download.is))
          (download_untold account c.args.self.now.uploads _ _ c.args.error p is),
      text_is,
    )) c.untold_response.ensures
