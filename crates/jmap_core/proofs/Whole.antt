-- A response to whole answers is whole.
use Rattle.std.proofs.Common.{◌≡◌, ℕ, List, [], ◌∷◌, map, false, ◌||◌, Option, Some, None, refl, ap, ◌∙◌}
use Rattle.std.specs.List.{All, AllByRecursion}
use Rattle.std.proofs.lemmas.List.Elements.{recursion_from_All}
use Rattle.serde_json.specs.View.{items_of}
use Rattle.serde_json.specs.Written.{has_float, items_have_float, members_have_float}
use Rattle.jmap_core.specs.CreatedIds.{Ids, id_members}
use Rattle.result_references.specs.Call.{call_data}
use Rattle.jmap_core.specs.Response.{answer_data, response_data, IsWhole}
use Rattle.result_references.specs.declared.call.Call.{Call}

whole_answer : (c : Call) → IsWhole c → has_float (answer_data (call_data c)) ≡ false
whole_answer c whole = rw whole refl

whole_answers : (cs : List Call) → AllByRecursion IsWhole cs → items_have_float (items_of (map answer_data (map call_data cs))) ≡ false
whole_answers [] whole = refl
whole_answers (c ∷ cs) whole = ap (λ b. b || items_have_float (items_of (map answer_data (map call_data cs)))) (whole_answer c whole.0) ∙ whole_answers cs whole.1

whole_ids : (ids : Ids) → members_have_float (id_members ids) ≡ false
whole_ids [] = refl
whole_ids (e ∷ ids) = whole_ids ids

-- where no answer has a number with a fraction, the response to them all has none
pub whole_response : (cs : List Call) (created : Option Ids) (session : List ℕ) → All IsWhole cs → has_float (response_data (map call_data cs) created session) ≡ false
whole_response cs None session whole = rw (whole_answers cs (recursion_from_All _ cs whole)) refl
whole_response cs (Some ids) session whole = rw (whole_ids ids, whole_answers cs (recursion_from_All _ cs whole)) refl
