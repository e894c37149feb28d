-- The answers to calls that read, one after another over one mail, and the bodies that they ask (RFC 8620 sections 3.2 to 3.7).
use Rattle.std.specs.Prelude.{◌≡◌, ◌++◌, Bool, List, [], ◌∷◌, Result, Ok, Err, codes}
use Rattle.std.specs.List.{list_any}
use Rattle.serde_json.specs.Data.{Data}
use Rattle.email_bodies.specs.Asking.{BodyAsk}
use Rattle.jmap_arguments.specs.Errors.{error_data}
use Rattle.gate_calls.specs.MethodNames.{method_asked, needs_mail_by}
use Rattle.gate_calls.specs.declared.method.Method.{Method}
use Rattle.jmap_arguments.specs.declared.using.Using.{Using}
use Rattle.jmap_arguments.specs.declared.method_error.MethodError.{MethodError}
use Rattle.result_references.specs.References.{resolved_arguments}
use Rattle.result_references.specs.Call.{CallData}
use Rattle.gate_calls.specs.Mailings.{MailAndUploads}
use Rattle.gate_calls.specs.Methods.{RepliesTo}

-- What a call comes to, after these responses: its name is looked at first, then its references, then the method's own arguments.
pub data AnswersCall (uses : Using) (over : MailAndUploads) (earlier : List CallData) (call : CallData) : List BodyAsk → Result Data MethodError → Type 0 where
  NoMethod : (e : MethodError) → method_asked uses call.name ≡ Err e → AnswersCall uses over earlier call [] (Err e)
  Unresolved : (m : Method) (e : MethodError) → method_asked uses call.name ≡ Ok m → resolved_arguments earlier call.arguments ≡ Err e
      → AnswersCall uses over earlier call [] (Err e)
  Resolved : {asks : List BodyAsk} {result : Result Data MethodError} (m : Method) (d : Data) → method_asked uses call.name ≡ Ok m
      → resolved_arguments earlier call.arguments ≡ Ok d → RepliesTo m over d asks result → AnswersCall uses over earlier call asks result

-- the one response to a call
abbrev pub answered_call : CallData → Result Data MethodError → CallData
answered_call call (Ok arguments) = record call { arguments = arguments }
answered_call call (Err e) = record { name = codes "error"; arguments = error_data e; id = call.id }

-- one call more, after these responses to those before it
pub record NextCall (uses : Using) (over : MailAndUploads) (earlier : List CallData) : Type 0 where
  pub call : CallData
  pub asks : List BodyAsk
  pub result : Result Data MethodError
  pub answers : AnswersCall uses over earlier call asks result

-- The responses to calls in order over one mail, each after those to the calls before it, and the bodies that they ask on the way.
pub data AnswersCalls (uses : Using) (over : MailAndUploads) : List CallData → List BodyAsk → List CallData → Type 0 where
  NoCalls : AnswersCalls uses over [] [] []
  MoreCalls : {calls responses : List CallData} {asks : List BodyAsk} (next : NextCall uses over responses) → AnswersCalls uses over calls asks responses
      → AnswersCalls uses over (calls ++ next.call ∷ []) (asks ++ next.asks) (responses ++ answered_call next.call next.result ∷ [])

-- The first of these calls ask these bodies.
pub record FirstCallsAsk (uses : Using) (over : MailAndUploads) (calls : List CallData) (asks : List BodyAsk) : Type 0 where
  pub firsts : List CallData
  pub later : List CallData
  pub responses : List CallData
  pub calls_are : calls ≡ firsts ++ later
  pub answers : AnswersCalls uses over firsts asks responses

-- whether one of them needs the mail
abbrev pub needs_mail : List CallData → Bool
needs_mail calls = list_any (λ call. needs_mail_by call.name) calls
