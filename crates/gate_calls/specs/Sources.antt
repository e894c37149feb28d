-- What comes of calls that a source answers one after another (RFC 8620 sections 3.3, 3.6.2 and 3.7). `Answers` is what it makes of a method over its
-- arguments, and `Lacks` that memory runs out meanwhile: the source and the outside before and after.
use Rattle.std.specs.Prelude.{◌≡◌, ◌⊎◌, ◌++◌, List, [], ◌∷◌, Result, Ok, Err}
use Rattle.std.specs.declared.alloc.AllocError.{AllocError}
use Rattle.serde_json.specs.declared.value.Value.{Value}
use Rattle.serde_json.specs.Data.{Data}
use Rattle.serde_json.specs.View.{view}
use Rattle.jmap_arguments.specs.declared.method_error.MethodError.{MethodError}
use Rattle.jmap_arguments.specs.declared.method_error.MethodError.TheVariants.{Memory}
use Rattle.jmap_arguments.specs.declared.using.Using.{Using}
use Rattle.result_references.specs.Call.{CallData}
use Rattle.result_references.specs.References.{resolved_arguments}
use Rattle.gate_calls.specs.Calls.{answered_call}
use Rattle.gate_calls.specs.MethodNames.{method_asked}
use Rattle.gate_calls.specs.declared.method.Method.{Method}

-- what was given is what was answered; or memory ran out
abbrev pub Gives : (Result Data MethodError → Type 0) → Type 0 → Result Value MethodError → Type 0
Gives IsAnswered Lacks (Ok value) = IsAnswered (Ok (view value))
Gives IsAnswered Lacks (Err e) = ((e ≡ Memory) × Lacks) ⊎ IsAnswered (Err e)

-- What a call comes to, after these responses: its name is looked at first, then its references, then the source answers the method.
pub data CallGives {S : Type 0} (Answers : S → Method → Data → Result Data MethodError → S → Type 0) (uses : Using) (earlier : List CallData) (call : CallData)
    (before : S) : Result Data MethodError → S → Type 0 where
  NoMethod : (e : MethodError) → method_asked uses call.name ≡ Err e → CallGives Answers uses earlier call before (Err e) before
  Unresolved : (m : Method) (e : MethodError) → method_asked uses call.name ≡ Ok m → resolved_arguments earlier call.arguments ≡ Err e
      → CallGives Answers uses earlier call before (Err e) before
  Resolved : {result : Result Data MethodError} {after : S} (m : Method) (d : Data) → method_asked uses call.name ≡ Ok m
      → resolved_arguments earlier call.arguments ≡ Ok d → Answers before m d result after → CallGives Answers uses earlier call before result after

-- Memory runs out in a call: before the source is asked, meanwhile, or when its response is made.
pub data CallLacks {S : Type 0} (Answers : S → Method → Data → Result Data MethodError → S → Type 0) (Lacks : S → Method → Data → S → Type 0) (uses : Using)
    (earlier : List CallData) (call : CallData) (before after : S) : Type 0 where
  Unasked : after ≡ before → CallLacks Answers Lacks uses earlier call before after
  Meanwhile : (m : Method) (d : Data) → method_asked uses call.name ≡ Ok m → resolved_arguments earlier call.arguments ≡ Ok d → Lacks before m d after
      → CallLacks Answers Lacks uses earlier call before after
  Unanswered : (result : Result Data MethodError) → CallGives Answers uses earlier call before result after → CallLacks Answers Lacks uses earlier call before after

-- The responses to calls in order.
pub data CallsGive {S : Type 0} (Answers : S → Method → Data → Result Data MethodError → S → Type 0) (uses : Using) (before : S)
    : List CallData → List CallData → S → Type 0 where
  NoCalls : CallsGive Answers uses before [] [] before
  MoreCalls : {calls responses : List CallData} {mid after : S} (call : CallData) (result : Result Data MethodError)
      → CallsGive Answers uses before calls responses mid → CallGives Answers uses responses call mid result after
      → CallsGive Answers uses before (calls ++ call ∷ []) (responses ++ answered_call call result ∷ []) after

-- Memory runs out before the first of the calls that are left, or in it.
pub data NextLacks {S : Type 0} (Answers : S → Method → Data → Result Data MethodError → S → Type 0) (Lacks : S → Method → Data → S → Type 0) (uses : Using)
    (earlier : List CallData) (before after : S) : List CallData → Type 0 where
  BeforeNext : (later : List CallData) → after ≡ before → NextLacks Answers Lacks uses earlier before after later
  InNext : (call : CallData) (later : List CallData) → CallLacks Answers Lacks uses earlier call before after
      → NextLacks Answers Lacks uses earlier before after (call ∷ later)

-- The first calls are answered, and then memory runs out.
pub record CallsLack {S : Type 0} (Answers : S → Method → Data → Result Data MethodError → S → Type 0) (Lacks : S → Method → Data → S → Type 0) (uses : Using)
    (before : S) (calls : List CallData) (after : S) : Type 0 where
  pub firsts : List CallData
  pub later : List CallData
  pub responses : List CallData
  pub mid : S
  pub calls_are : calls ≡ firsts ++ later
  pub gives : CallsGive Answers uses before firsts responses mid
  pub lacks : NextLacks Answers Lacks uses responses mid after later

-- what was made is so by the responses to calls; or memory ran out
abbrev pub CallsMake : {S X : Type 0} → (S → Method → Data → Result Data MethodError → S → Type 0) → (S → Method → Data → S → Type 0) → Using → S → S
    → List CallData → Result X AllocError → (X → List CallData → Type 0) → Type 0
CallsMake Answers Lacks uses before after calls (Ok x) IsSo =
    (responses : List CallData) × CallsGive Answers uses before calls responses after × IsSo x responses
CallsMake Answers Lacks uses before after calls (Err e) IsSo = CallsLack Answers Lacks uses before calls after
