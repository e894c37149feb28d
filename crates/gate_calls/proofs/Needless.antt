-- Calls that need no mail are answered the same whatever mail there is, and without mail none asks for a body.
use Rattle.std.proofs.Common.{◌≡◌, ◌∙◌, ◌||◌, ◌++◌, ℕ, Bool, true, false, not, if◌then◌else◌, bytes_eq, List, [], ◌∷◌, Option, Some, Result, Ok, Err, refl, sym, ap, subst}
use Rattle.std.specs.List.{find, list_any}
use Rattle.std.proofs.lemmas.List.Folds.{list_any-append}
use Rattle.serde_json.specs.Data.{Data}
use Rattle.email_bodies.specs.Asking.{BodyAsk}
use Rattle.jmap_arguments.specs.declared.method_error.MethodError.{MethodError}
use Rattle.jmap_arguments.specs.declared.using.Using.{Using}
use Rattle.result_references.specs.Call.{CallData}
use Rattle.gate_calls.specs.Calls.{AnswersCall, NoMethod, Unresolved, Resolved, AnswersCalls, NoCalls, MoreCalls, needs_mail}
use Rattle.gate_calls.specs.Mailings.{MailAndUploads}
use Rattle.gate_calls.specs.MethodNames.{method_asked, method_of, name_of, needs_mail_by, where_used}
use Rattle.gate_calls.specs.Methods.{RepliesTo}
use Rattle.set_arguments.specs.declared.set_method.SetMethod.TheVariants.{EmailSet, MailboxSet, EmailImport}
use Rattle.gate_calls.specs.declared.method.Method.{Method}
use Rattle.gate_calls.specs.declared.method.Method.TheVariants.{CoreEcho, MailboxGet, MailboxChanges, MailboxQuery, MailboxQueryChanges, ThreadGet}
use Rattle.gate_calls.specs.declared.method.Method.TheVariants.{ThreadChanges, EmailGet, EmailChanges, EmailQuery, EmailQueryChanges, EmailParse, Set}

left_false : (a b : Bool) → (a || b) ≡ false → a ≡ false
left_false true b is = is
left_false false b is = refl

right_false : (a b : Bool) → (a || b) ≡ false → b ≡ false
right_false true b is = absurd (let never : true ≡ false = is in cc)
right_false false b is = is

not_false : (b : Bool) → not b ≡ false → b ≡ true
not_false true is = refl
not_false false is = absurd (let never : true ≡ false = is in cc)

-- the first method is found by its name
abbrev by_first : List ℕ → Bool → Option Method
by_first name first =
    if first then Some CoreEcho else
    find (λ m. bytes_eq name (name_of m))
    (MailboxGet ∷ MailboxChanges ∷ MailboxQuery ∷ MailboxQueryChanges ∷ ThreadGet ∷ ThreadChanges ∷ EmailGet ∷ EmailChanges ∷ EmailQuery ∷ EmailQueryChanges ∷ EmailParse ∷ Set MailboxSet
    ∷ Set EmailSet ∷ Set EmailImport ∷ [])

first_by : (name : List ℕ) (test : Bool) → bytes_eq name (name_of CoreEcho) ≡ test → method_of name ≡ by_first name test
first_by name test is = ap (λ (b : Bool). by_first name b) is

echo_is : (core : Bool) (uses : Using) (m : Method) → uses.core ≡ core → where_used uses (Some CoreEcho) ≡ Ok m → m ≡ CoreEcho
echo_is true uses m core is = cc
echo_is false uses m core is = cc

-- a call that needs no mail asks for no other method
pub asks_echo : (uses : Using) (name : List ℕ) (m : Method) → needs_mail_by name ≡ false → method_asked uses name ≡ Ok m → m ≡ CoreEcho
asks_echo uses name m needless asked =
    let named : method_of name ≡ Some CoreEcho = first_by name true (not_false (bytes_eq name (name_of CoreEcho)) needless) in
    echo_is uses.core uses m refl (sym (ap (λ (o : Option Method). where_used uses o) named) ∙ asked)

module _ (uses : Using) (o p : MailAndUploads) where
  echo_reply : (m : Method) (d : Data) (asks : List BodyAsk) (result : Result Data MethodError) → m ≡ CoreEcho → RepliesTo m o d asks result → RepliesTo m p d asks result
  echo_reply m d asks result is replies =
      subst (λ (n : Method). RepliesTo n p d asks result) (sym is)
      (let echo : RepliesTo CoreEcho o d asks result = subst (λ (n : Method). RepliesTo n o d asks result) is replies in echo)

  one_call : {earlier : List CallData} {call : CallData} {asks : List BodyAsk} {result : Result Data MethodError} → needs_mail_by call.name ≡ false
      → AnswersCall uses o earlier call asks result → AnswersCall uses p earlier call asks result
  one_call needless (NoMethod e is) = NoMethod e is
  one_call needless (Unresolved m e is unresolved) = Unresolved m e is unresolved
  one_call {call = call} {asks = asks} {result = result} needless (Resolved m d is resolved replies) =
      Resolved m d is resolved (echo_reply m d asks result (asks_echo uses call.name m needless is) replies)

  -- over any mail and uploads
  pub over_any : {calls responses : List CallData} {asks : List BodyAsk} → needs_mail calls ≡ false → AnswersCalls uses o calls asks responses
      → AnswersCalls uses p calls asks responses
  over_any needless NoCalls = NoCalls
  over_any needless (MoreCalls {calls = calls} next rest) =
      let both : (list_any (λ (call : CallData). needs_mail_by call.name) calls || (needs_mail_by next.call.name || false)) ≡ false =
      sym (list_any-append (λ (call : CallData). needs_mail_by call.name) calls (next.call ∷ [])) ∙ needless in
      let last : (needs_mail_by next.call.name || false) ≡ false =
      right_false (list_any (λ (call : CallData). needs_mail_by call.name) calls) (needs_mail_by next.call.name || false) both in
      MoreCalls
      (record {
        call = next.call;
        asks = next.asks;
        result = next.result;
        answers = one_call (left_false (needs_mail_by next.call.name) false last) next.answers;
      })
      (over_any (left_false (list_any (λ (call : CallData). needs_mail_by call.name) calls) (needs_mail_by next.call.name || false) both) rest)

-- ---- without mail

-- without mail no body is asked
reply_asks : (m : Method) (e : MethodError) (uploads : List (List ℕ)) (d : Data) (asks : List BodyAsk) (r : Result Data MethodError)
    → RepliesTo m (record { mail = Err e; uploads = uploads }) d asks r → asks ≡ []
reply_asks CoreEcho e uploads d asks r replies = replies.0
reply_asks MailboxGet e uploads d asks r replies = replies.0
reply_asks MailboxChanges e uploads d asks r replies = replies.0
reply_asks MailboxQuery e uploads d asks r replies = replies.0
reply_asks MailboxQueryChanges e uploads d asks r replies = replies.0
reply_asks ThreadGet e uploads d asks r replies = replies.0
reply_asks ThreadChanges e uploads d asks r replies = replies.0
reply_asks EmailGet e uploads d asks r replies = replies.0
reply_asks EmailChanges e uploads d asks r replies = replies.0
reply_asks EmailQuery e uploads d asks r replies = replies.0
reply_asks EmailQueryChanges e uploads d asks r replies = replies.0
reply_asks EmailParse e uploads d asks r replies = replies.0
reply_asks (Set k) e uploads d asks r replies = replies.0

call_asks : {uses : Using} {e : MethodError} {uploads : List (List ℕ)} {earlier : List CallData} {call : CallData} {asks : List BodyAsk} {r : Result Data MethodError}
    → AnswersCall uses (record { mail = Err e; uploads = uploads }) earlier call asks r → asks ≡ []
call_asks (NoMethod f is) = refl
call_asks (Unresolved m f is js) = refl
call_asks {e = e} {uploads = uploads} {asks = asks} {r = r} (Resolved m d is js replies) = reply_asks m e uploads d asks r replies

pub none_asked : {uses : Using} {e : MethodError} {uploads : List (List ℕ)} {calls : List CallData} {asks : List BodyAsk} {responses : List CallData}
    → AnswersCalls uses (record { mail = Err e; uploads = uploads }) calls asks responses → asks ≡ []
none_asked NoCalls = refl
none_asked (MoreCalls next rest) = (λ i. none_asked rest i ++ call_asks next.answers i)
