-- The response to one call.
use Rattle.std.specs.Prelude.{◌≡◌, ◌≢◌, List, Result, Ok, Err}
use Rattle.std.specs.declared.alloc.AllocError.{AllocError}
use Rattle.serde_json.specs.declared.value.Value.{Value}
use Rattle.serde_json.specs.Data.{Data}
use Rattle.serde_json.specs.View.{view}
use Rattle.jmap_arguments.specs.declared.using.Using.{Using}
use Rattle.jmap_arguments.specs.declared.method_error.MethodError.{MethodError}
use Rattle.jmap_arguments.specs.declared.method_error.MethodError.TheVariants.{Memory}
use Rattle.result_references.specs.Call.{CallData, call_data}
use Rattle.result_references.specs.declared.call.Call.{Call}
use Rattle.gate_calls.specs.Calls.{answered_call}
use Rattle.gate_calls.specs.Sources.{CallGives, CallLacks}
use Rattle.gate_calls.specs.declared.method.Method.{Method}

-- the response to a call that came to this, which is not out of memory
abbrev pub IsResponseTo : Result Value MethodError → CallData → CallData → Type 0
IsResponseTo (Ok value) call response = response ≡ answered_call call (Ok (view value))
IsResponseTo (Err e) call response = (e ≢ Memory) × (response ≡ answered_call call (Err e))

-- the response to a call after these, by what it comes to; or memory ran out
abbrev pub Responds : {S : Type 0} → (S → Method → Data → Result Data MethodError → S → Type 0) → (S → Method → Data → S → Type 0) → Using
    → List CallData → CallData → S → S → Result Call AllocError → Type 0
Responds Answers Lacks uses earlier call before after (Ok r) =
    (result : Result Data MethodError) × CallGives Answers uses earlier call before result after × (call_data r ≡ answered_call call result)
Responds Answers Lacks uses earlier call before after (Err e) = CallLacks Answers Lacks uses earlier call before after
