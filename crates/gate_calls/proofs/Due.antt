-- The bodies that calls ask are due.
use Rattle.std.proofs.Common.{◌≡◌, ◌∙◌, ◌++◌, List, [], ◌∷◌, append-nil, append_assoc, Result, Ok, Err, refl, sym, ap}
use Rattle.serde_json.specs.Data.{Data}
use Rattle.email_bodies.specs.Asking.{BodyAsk, AreDue}
use Rattle.email_bodies.proofs.Due.{none_due, no_asks_due, due_more, due_after}
use Rattle.email_get.specs.Asked.{FailsAfter}
use Rattle.email_get.specs.EmailGet.{RepliesEmailGet}
use Rattle.email_get.specs.EmailParse.{RepliesEmailParse}
use Rattle.email_get.proofs.Due.{due_get, due_parse}
use Rattle.jmap_arguments.specs.declared.using.Using.{Using}
use Rattle.jmap_arguments.specs.declared.method_error.MethodError.{MethodError}
use Rattle.result_references.specs.Call.{CallData}
use Rattle.mail_state.specs.History.{MailHistory}
use Rattle.query_changes.specs.Replies.{RepliesEmailQueryChanges, RepliesMailboxQueryChanges}
use Rattle.query_core.specs.Answers.{RepliesEmailQuery, RepliesMailboxQuery}
use Rattle.read_methods.specs.Replies.{mailbox_get_reply, thread_get_reply, RepliesMailboxChanges, RepliesThreadChanges, RepliesEmailChanges}
use Rattle.served_types.specs.States.{type_state}
use Rattle.gate_calls.specs.Calls.{AnswersCall, NoMethod, Unresolved, Resolved, AnswersCalls, NoCalls, MoreCalls, FirstCallsAsk, answered_call}
use Rattle.gate_calls.specs.Mailings.{Mailing, MailAndUploads}
use Rattle.gate_calls.specs.Methods.{AtOnce, OverMail, RepliesTo, set_refused}
use Rattle.gate_calls.specs.declared.method.Method.{Method}
use Rattle.gate_calls.specs.declared.method.Method.TheVariants.{CoreEcho, MailboxGet, MailboxChanges, MailboxQuery, MailboxQueryChanges, ThreadGet}
use Rattle.gate_calls.specs.declared.method.Method.TheVariants.{ThreadChanges, EmailGet, EmailChanges, EmailQuery, EmailQueryChanges, EmailParse, Set}

-- ---- one call

-- of a reply over the mail, where it is told
over_mail_due : (mail : Mailing) (refused : Result (Unit {0}) MethodError) (Replies : MailHistory → List BodyAsk → Result Data MethodError → Type 0)
    → ((h : MailHistory) (asks : List BodyAsk) (r : Result Data MethodError) → Replies h asks r → AreDue (FailsAfter (Replies h)) asks)
    → (asks : List BodyAsk) (r : Result Data MethodError) → OverMail mail refused Replies asks r → AreDue (FailsAfter (OverMail mail refused Replies)) asks
over_mail_due (Ok h) refused Replies due asks r replies = due h asks r replies
over_mail_due (Err e) refused Replies due asks r replies = no_asks_due (FailsAfter (OverMail (Err e) refused Replies)) asks replies.0

-- of one for which no body is asked
at_once_due : (Replies : MailHistory → Result Data MethodError → Type 0) (mail : Mailing) (refused : Result (Unit {0}) MethodError) (asks : List BodyAsk)
    (r : Result Data MethodError) → OverMail mail refused (λ h. AtOnce (Replies h)) asks r → AreDue (FailsAfter (OverMail mail refused (λ h. AtOnce (Replies h)))) asks
at_once_due Replies mail refused asks r replies =
    over_mail_due mail refused (λ h. AtOnce (Replies h)) (λ h also s once. no_asks_due (FailsAfter (AtOnce (Replies h))) also once.0) asks r replies

due_reply : (m : Method) (over : MailAndUploads) (d : Data) (asks : List BodyAsk) (r : Result Data MethodError) → RepliesTo m over d asks r
    → AreDue (FailsAfter (RepliesTo m over d)) asks
due_reply CoreEcho over d asks r replies = no_asks_due (FailsAfter (RepliesTo CoreEcho over d)) asks replies.0
due_reply MailboxGet over d asks r replies = at_once_due (λ h s. s ≡ mailbox_get_reply h d) over.mail _ asks r replies
due_reply MailboxChanges over d asks r replies = at_once_due (λ h s. RepliesMailboxChanges h d s) over.mail _ asks r replies
due_reply MailboxQuery over d asks r replies = at_once_due (λ h s. RepliesMailboxQuery h d s) over.mail _ asks r replies
due_reply MailboxQueryChanges over d asks r replies = at_once_due (λ h s. RepliesMailboxQueryChanges h d s) over.mail _ asks r replies
due_reply ThreadGet over d asks r replies = at_once_due (λ h s. s ≡ thread_get_reply h d) over.mail _ asks r replies
due_reply ThreadChanges over d asks r replies = at_once_due (λ h s. RepliesThreadChanges h d s) over.mail _ asks r replies
due_reply EmailGet over d asks r replies =
    over_mail_due over.mail _ (λ h. RepliesEmailGet h d) (λ h. due_get (type_state h h.emails) h.numbered.rows d) asks r replies
due_reply EmailChanges over d asks r replies = at_once_due (λ h s. RepliesEmailChanges h d s) over.mail _ asks r replies
due_reply EmailQuery over d asks r replies = at_once_due (λ h s. RepliesEmailQuery h d s) over.mail _ asks r replies
due_reply EmailQueryChanges over d asks r replies = at_once_due (λ h s. RepliesEmailQueryChanges h d s) over.mail _ asks r replies
due_reply EmailParse over d asks r replies =
    over_mail_due over.mail _ (λ h. RepliesEmailParse h over.uploads d) (λ h. due_parse h.numbered.rows over.uploads d) asks r replies
due_reply (Set k) over d asks r replies =
    over_mail_due over.mail (set_refused k d) (λ h also s. ⊥) (λ h also s never. absurd never) asks r replies

pub due_call : {uses : Using} {over : MailAndUploads} {earlier : List CallData} {call : CallData} {asks : List BodyAsk} {r : Result Data MethodError}
    → AnswersCall uses over earlier call asks r → AreDue (FailsAfter (AnswersCall uses over earlier call)) asks
due_call {uses} {over} {earlier} {call} (NoMethod e is) = none_due (FailsAfter (AnswersCall uses over earlier call))
due_call {uses} {over} {earlier} {call} (Unresolved m e is js) = none_due (FailsAfter (AnswersCall uses over earlier call))
due_call {uses} {over} {earlier} {call} {asks} {r} (Resolved m d is js replies) =
    due_more (FailsAfter (RepliesTo m over d)) (FailsAfter (AnswersCall uses over earlier call)) asks
    (λ more fails. (fails.0, Resolved m d is js fails.1)) (due_reply m over d asks r replies)

-- ---- calls

-- the first of these are the first of these and further ones
pub first_of_more : {uses : Using} {over : MailAndUploads} {calls all : List CallData} {asks : List BodyAsk} (later : List CallData) → all ≡ calls ++ later
    → FirstCallsAsk uses over calls asks → FirstCallsAsk uses over all asks
first_of_more later all_are first =
    record {
      firsts = first.firsts;
      later = first.later ++ later;
      responses = first.responses;
      calls_are = all_are ∙ ap (λ (cs : List CallData). cs ++ later) first.calls_are ∙ append_assoc first.firsts first.later later;
      answers = first.answers;
    }

-- calls, and then one that fails
pub fails_after_calls : {uses : Using} {over : MailAndUploads} {calls responses : List CallData} {call : CallData} {asks more : List BodyAsk}
    → AnswersCalls uses over calls asks responses → FailsAfter (AnswersCall uses over responses call) more → FirstCallsAsk uses over (calls ++ call ∷ []) (asks ++ more)
fails_after_calls {calls = calls} {responses = responses} {call = call} {more = more} answers fails =
    record {
      firsts = calls ++ call ∷ [];
      later = [];
      responses = responses ++ answered_call call (Err fails.0) ∷ [];
      calls_are = sym (append-nil (calls ++ call ∷ []));
      answers = MoreCalls (record { call = call; asks = more; result = Err fails.0; answers = fails.1 }) answers;
    }

pub due_calls : {uses : Using} {over : MailAndUploads} {calls : List CallData} {asks : List BodyAsk} {responses : List CallData}
    → AnswersCalls uses over calls asks responses → AreDue (FirstCallsAsk uses over calls) asks
due_calls {uses} {over} NoCalls = none_due (FirstCallsAsk uses over [])
due_calls {uses} {over} (MoreCalls {calls = calls} {responses = responses} {asks = asks} next rest) =
    due_after (FailsAfter (AnswersCall uses over responses next.call)) (FirstCallsAsk uses over (calls ++ next.call ∷ [])) asks next.asks
    (due_more (FirstCallsAsk uses over calls) (FirstCallsAsk uses over (calls ++ next.call ∷ [])) asks (λ l first. first_of_more (next.call ∷ []) refl first) (due_calls rest))
    (λ more fails. fails_after_calls rest fails) (due_call next.answers)
