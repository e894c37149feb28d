-- Calls that a source answers, one after another.
use Rattle.std.proofs.Common.{rules, ◌≡◌, ◌∙◌, ◌||◌, ◌++◌, Bool, List, [], ◌∷◌, append_assoc, map, refl, sym, ap, subst, inl, inr, Result, Ok, Err}
use Rattle.std.specs.Prelude.{All, IfOk}
use Rattle.std.specs.List.{list_any}
use Rattle.std.specs.declared.alloc.AllocError.{AllocError}
use Rattle.std.proofs.lemmas.List.{map-append}
use Rattle.std.proofs.lemmas.List.Elements.{All-append}
use Rattle.serde_json.specs.declared.value.Value.{Value}
use Rattle.serde_json.specs.Data.{Data}
use Rattle.serde_json.specs.View.{view}
use Rattle.jmap_arguments.specs.Outcome.{Agrees}
use Rattle.jmap_arguments.specs.declared.using.Using.{Using}
use Rattle.jmap_arguments.specs.declared.method_error.MethodError.{MethodError}
use Rattle.jmap_arguments.specs.declared.method_error.MethodError.TheVariants.{Memory}
use Rattle.result_references.specs.References.{resolved_arguments}
use Rattle.result_references.specs.Call.{CallData, call_data}
use Rattle.jmap_core.specs.Response.{IsWhole}
use Rattle.result_references.specs.declared.call.Call.{Call}
use Rattle.gate_calls.specs.declared.method.Method.{Method}
use Rattle.gate_calls.specs.MethodNames.{method_asked}
use Rattle.gate_calls.specs.Calls.{answered_call}
use Rattle.gate_calls.specs.Sources.{Gives, CallGives, NoMethod, Unresolved, Resolved, CallLacks, Unasked, Meanwhile, Unanswered, CallsGive, NoCalls, MoreCalls}
use Rattle.gate_calls.specs.Sources.{BeforeNext, InNext, CallsLack, CallsMake}
use Rattle.gate_calls.specs.reading.Responding.{IsResponseTo, Responds}

-- a test of what is made of each element
pub any_map : {X Y : Type 0} (f : X → Y) (test : Y → Bool) (xs : List X) → list_any test (map f xs) ≡ list_any (λ x. test (f x)) xs
any_map f test [] = refl
any_map f test (x ∷ xs) = ap (λ (b : Bool). test (f x) || b) (any_map f test xs)

pub all_more : (rs now : List Call) (r : Call) → now ≡ rs ++ r ∷ [] → All IsWhole rs → IsWhole r → All IsWhole now
all_more rs now r is whole one = subst (λ (l : List Call). All IsWhole l) (sym is) (All-append IsWhole rs (r ∷ []) whole (search rules))

module _ {S : Type 0} (Answers : S → Method → Data → Result Data MethodError → S → Type 0) (Lacks : S → Method → Data → S → Type 0) (uses : Using) where
  -- ---- one call

  -- a method over arguments that were resolved
  pub resolved : (before after : S) (earlier : List CallData) (call : CallData) (m : Method) (d : Data) (came : Result Value MethodError)
      → method_asked uses call.name ≡ Ok m → resolved_arguments earlier call.arguments ≡ Ok d
      → Gives (λ r. Answers before m d r after) (Lacks before m d after) came
      → Gives (λ r. CallGives Answers uses earlier call before r after) (CallLacks Answers Lacks uses earlier call before after) came
  resolved before after earlier call m d (Ok value) named is gives = Resolved m d named is gives
  resolved before after earlier call m d (Err e) named is (inl lacks) = inl (lacks.0, Meanwhile m d named is lacks.1)
  resolved before after earlier call m d (Err e) named is (inr gives) = inr (Resolved m d named is gives)

  -- arguments that aren't resolved
  pub unresolved : (s : S) (earlier : List CallData) (call : CallData) (m : Method) (e : MethodError) → method_asked uses call.name ≡ Ok m
      → Agrees Memory view (Err e) (resolved_arguments earlier call.arguments)
      → Gives (λ r. CallGives Answers uses earlier call s r s) (CallLacks Answers Lacks uses earlier call s s) (Err e)
  unresolved s earlier call m e named (inl out) = inl (out, Unasked refl)
  unresolved s earlier call m e named (inr is) = inr (Unresolved m e named is)

  -- no method
  pub unnamed : (s : S) (earlier : List CallData) (call : CallData) (e : MethodError) → method_asked uses call.name ≡ Err e
      → Gives (λ r. CallGives Answers uses earlier call s r s) (CallLacks Answers Lacks uses earlier call s s) (Err e)
  unnamed s earlier call e is = inr (NoMethod e is)

  -- the response to what a call came to, or there was no memory for it
  pub responds : (before after : S) (earlier : List CallData) (call : CallData) (came : Result Value MethodError) (result : Result Call AllocError)
      → Gives (λ r. CallGives Answers uses earlier call before r after) (CallLacks Answers Lacks uses earlier call before after) came
      → IfOk result (λ r. IsResponseTo came call (call_data r)) → Responds Answers Lacks uses earlier call before after result
  responds before after earlier call (Ok value) (Ok r) gives is = (Ok (view value), gives, is)
  responds before after earlier call (Err e) (Ok r) (inl lacks) is = absurd (is.0 lacks.0)
  responds before after earlier call (Err e) (Ok r) (inr gives) is = (Err e, gives, is.1)
  responds before after earlier call (Ok value) (Err x) gives is = Unanswered (Ok (view value)) gives
  responds before after earlier call (Err e) (Err x) (inl lacks) is = lacks.1
  responds before after earlier call (Err e) (Err x) (inr gives) is = Unanswered (Err e) gives

  -- ---- calls

  -- these were answered so
  abbrev pub Answered : S → S → List Call → List Call → Type 0
  Answered before now calls responses = CallsGive Answers uses before (map call_data calls) (map call_data responses) now

  pub none_yet : (s : S) (responses : List Call) → responses ≡ [] → Answered s s [] responses
  none_yet s responses none = subst (λ (rs : List Call). Answered s s [] rs) (sym none) NoCalls

  -- and one more
  pub one_answered : (before mid after : S) (done now shown showing : List Call) (call response : Call) → Answered before mid done shown
      → Responds Answers Lacks uses (map call_data shown) (call_data call) mid after (Ok response) → now ≡ done ++ call ∷ [] → showing ≡ shown ++ response ∷ []
      → Answered before after now showing
  one_answered before mid after done now shown showing call response answered next now_is showing_is =
      let calls_are : map call_data done ++ call_data call ∷ [] ≡ map call_data now =
      sym (map-append call_data done (call ∷ [])) ∙ ap (λ (cs : List Call). map call_data cs) (sym now_is) in
      let responses_are : map call_data shown ++ answered_call (call_data call) next.0 ∷ [] ≡ map call_data showing =
      ap (λ (r : CallData). map call_data shown ++ r ∷ []) (sym next.2)
      ∙ sym (map-append call_data shown (response ∷ [])) ∙ ap (λ (cs : List Call). map call_data cs) (sym showing_is) in
      subst (λ (cs : List CallData). CallsGive Answers uses before cs (map call_data showing) after) calls_are
      (subst (λ (rs : List CallData). CallsGive Answers uses before (map call_data done ++ call_data call ∷ []) rs after) responses_are
      (MoreCalls (call_data call) next.0 answered next.1))

  -- memory ran out after these
  pub lacks_after : (before after : S) (done later all shown : List Call) → all ≡ done ++ later → Answered before after done shown
      → CallsLack Answers Lacks uses before (map call_data all) after
  lacks_after before after done later all shown all_are answered =
      record {
        firsts = map call_data done;
        later = map call_data later;
        responses = map call_data shown;
        mid = after;
        calls_are = ap (λ (cs : List Call). map call_data cs) all_are ∙ map-append call_data done later;
        gives = answered;
        lacks = BeforeNext (map call_data later) refl;
      }

  -- or in the next one
  pub lacks_in : (before mid after : S) (done later all shown : List Call) (call : Call) → all ≡ (done ++ call ∷ []) ++ later → Answered before mid done shown
      → CallLacks Answers Lacks uses (map call_data shown) (call_data call) mid after → CallsLack Answers Lacks uses before (map call_data all) after
  lacks_in before mid after done later all shown call all_are answered lacks =
      record {
        firsts = map call_data done;
        later = call_data call ∷ map call_data later;
        responses = map call_data shown;
        mid = mid;
        calls_are = ap (λ (cs : List Call). map call_data cs) (all_are ∙ append_assoc done (call ∷ []) later) ∙ map-append call_data done (call ∷ later);
        gives = answered;
        lacks = InNext (call_data call) (map call_data later) lacks;
      }

  -- there was no memory
  pub makes_none : {X : Type 0} (IsSo : X → List CallData → Type 0) (before after : S) (calls : List CallData) (result : Result X AllocError) (e : AllocError)
      → result ≡ Err e → CallsLack Answers Lacks uses before calls after → CallsMake Answers Lacks uses before after calls result IsSo
  makes_none {X} IsSo before after calls result e is lacks =
      subst (λ (r : Result X AllocError). CallsMake Answers Lacks uses before after calls r IsSo) (sym is) lacks
