use Rattle.std.proofs.Common.{◌≡◌, ◌∙◌, List, ℕ, Option, map, refl}
use Rattle.std.specs.Prelude.{string_bytes}
use Rattle.serde_json.specs.Written.{compact_text}
use Rattle.jmap_core.specs.CreatedIds.{Ids}
use Rattle.result_references.specs.Call.{CallData, call_data}
use Rattle.jmap_core.specs.Response.{response_data}
use Rattle.jmap_core.specs.Session.{session_state_text}
use Rattle.gate_serving.specs.Answers.{calls_text}
use Rattle.gate_serving.proofs.Meant.{meant_as}
use Rattle.gate_serving.proofs.answers.calls_text.Goals as goal

same_text : (answers : List CallData) {created created' : Option Ids} {session session' : List ℕ} → created ≡ created' → session ≡ session'
    → compact_text (response_data answers created session) ≡ compact_text (response_data answers created' session')
same_text answers b c = λ i. compact_text (response_data answers (b i) (c i))

pub returns : goal.returns
unfolding calls_text
returns c =
    let session_is = c.as_str-3.ensures.value ∙ c.in_ok-session.ensures ∙ (λ i. session_state_text (c.as_str.ensures i) (c.as_str-2.ensures i)) in
    meant_as string_bytes c.response_text.result c.response_text.ensures (same_text (map call_data c.args.responses.now) refl session_is)
