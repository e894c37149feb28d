-- The response to a request (RFC 8620 section 3.4).
use Rattle.std.specs.Prelude.{◌≡◌, ℕ, List, map, false, codes, Option, Some, None}
use Rattle.serde_json.specs.Data.{Data, string, array, object, no_items, item, Members, no_members, member}
use Rattle.serde_json.specs.View.{items_of, view}
use Rattle.serde_json.specs.Written.{has_float}
use Rattle.jmap_core.specs.CreatedIds.{Ids, id_members}
use Rattle.result_references.specs.Call.{CallData}
use Rattle.result_references.specs.declared.call.Call.{Call}

-- a method response: its name, its arguments and the id of the call that it answers
abbrev pub answer_data : CallData → Data
answer_data call = array (item (string call.name) (item call.arguments (item (string call.id) no_items)))

-- the created ids, where the request had them, before further members
abbrev pub created_before : Option Ids → Members → Members
created_before None members = members
created_before (Some ids) members = member (codes "createdIds") (object (id_members ids)) members

abbrev pub response_data : List CallData → Option Ids → List ℕ → Data
response_data answers created session = object
    (created_before created
    (member (codes "methodResponses") (array (items_of (map answer_data answers)))
    (member (codes "sessionState") (string session)
    no_members)))

-- no number in its arguments, at any depth, has a fraction
abbrev pub IsWhole : Call → Type 0
IsWhole call = has_float (view call.arguments) ≡ false
