-- What the sources of calls answer to a method.
use Rattle.std.proofs.Common.{◌≡◌, ℕ, List, [], refl, inl, inr, Result, Ok, Err}
use Rattle.serde_json.specs.declared.value.Value.{Value}
use Rattle.serde_json.specs.Data.{Data}
use Rattle.serde_json.specs.View.{view}
use Rattle.jmap_arguments.specs.Outcome.{Meets}
use Rattle.jmap_arguments.specs.declared.method_error.MethodError.{MethodError}
use Rattle.jmap_arguments.specs.declared.method_error.MethodError.TheVariants.{Memory}
use Rattle.gate_calls.specs.Methods.{RepliesTo}
use Rattle.gate_calls.specs.Sources.{Gives}
use Rattle.gate_calls.specs.declared.method.Method.{Method}

-- no mail
pub untold_gives : {T : Type 0} (s : T) (m : Method) (d : Data) (e : MethodError) (uploads : List (List ℕ)) (came : Result Value MethodError)
    → Meets Memory view came (RepliesTo m (record { mail = Err e; uploads = uploads }) d [])
    → Gives (λ r. (s ≡ s) × RepliesTo m (record { mail = Err e; uploads = uploads }) d [] r) (s ≡ s) came
untold_gives s m d e uploads (Ok value) meets = (refl, meets)
untold_gives s m d e uploads (Err error) (inl out) = inl (out, refl)
untold_gives s m d e uploads (Err error) (inr meets) = inr (refl, meets)
