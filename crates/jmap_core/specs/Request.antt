-- The request that a body is, or the first reason why it is none (RFC 8620 sections 3.3 and 3.6.1).
use Rattle.std.specs.Prelude.{ℕ, List, [], ◌∷◌, Bool, ◌||◌, if◌then◌else◌, bytes_eq, codes, nat_lt, length, map, Option, Some, None, option_map}
use Rattle.std.specs.Prelude.{option_and_then, Result, Ok, Err}
use Rattle.std.specs.List.{list_all}
use Rattle.std.specs.Str.{is_utf8}
use Rattle.serde_json.specs.Data.{Data, null, boolean, number, string, array, object, Items, no_items, item, Members}
use Rattle.serde_json.specs.Find.{get, as_str, as_array, as_object}
use Rattle.serde_json.specs.Read.{read}
use Rattle.jmap_arguments.specs.Arguments.{texts_in, is_among}
use Rattle.result_references.specs.Call.{CallData, call_data}
use Rattle.jmap_core.specs.CreatedIds.{Ids, given_to}
use Rattle.jmap_core.specs.declared.request.Request.{Request}
use Rattle.jmap_arguments.specs.declared.using.Using.{Using}
use Rattle.jmap_core.specs.declared.request.LimitName.TheVariants.{MaxCallsInRequest}
use Rattle.jmap_core.specs.declared.request.RequestError.{RequestError}
use Rattle.jmap_core.specs.declared.request.RequestError.TheVariants.{NotJson, NotRequest, UnknownCapability, Limit}
use Rattle.jmap_core.specs.declared.request_body.TheConstants.{MAX_CALLS_IN_REQUEST}

-- a request: which capabilities it uses, its calls, and the ids created earlier where it has them
pub record RequestData : Type 0 where
  pub uses : Using
  pub calls : List CallData
  pub created : Option Ids

abbrev pub request_data : Request → RequestData
request_data request = record { uses = request.using; calls = map call_data request.calls.items; created = request.created }

-- ---- the form of a request: `using`, a list of texts; `methodCalls`, a list of calls; `createdIds`, where it isn't absent or null an object of texts

pub record Form : Type 0 where
  pub uses : List (List ℕ)
  pub calls : List CallData
  pub created : Option Ids

-- a call is a text, an object and a text
abbrev pub call_from : Option (List ℕ) → Data → Option Members → Option (List ℕ) → Option CallData
call_from (Some name) arguments (Some found) (Some id) = Some (record { name = name; arguments = arguments; id = id })
call_from (Some name) arguments (Some found) None = None
call_from (Some name) arguments None id = None
call_from None arguments found id = None

abbrev pub call_of_items : Items → Option CallData
call_of_items no_items = None
call_of_items (item a no_items) = None
call_of_items (item a (item b no_items)) = None
call_of_items (item a (item b (item c no_items))) = call_from (as_str a) b (as_object b) (as_str c)
call_of_items (item a (item b (item c (item d ds)))) = None

abbrev pub call_in : Data → Option CallData
call_in d = option_and_then call_of_items (as_array d)

abbrev pub calls_in : Items → Option (List CallData)
calls_in no_items = Some []
calls_in (item d ds) = option_and_then (λ call. option_map (λ calls. call ∷ calls) (calls_in ds)) (call_in d)

abbrev pub created_in : Option Data → Option (Option Ids)
created_in None = Some None
created_in (Some null) = Some None
created_in (Some (boolean b)) = None
created_in (Some (number n)) = None
created_in (Some (string s)) = None
created_in (Some (array ds)) = None
created_in (Some (object ms)) = option_map Some (given_to [] ms)

abbrev pub form_from : Option (List (List ℕ)) → Option (List CallData) → Option (Option Ids) → Option Form
form_from (Some uses) (Some calls) (Some created) = Some (record { uses = uses; calls = calls; created = created })
form_from (Some uses) (Some calls) None = None
form_from (Some uses) None created = None
form_from None calls created = None

abbrev pub form_of : Data → Option Form
form_of d = form_from
    (option_and_then texts_in (option_and_then as_array (get (codes "using") d)))
    (option_and_then calls_in (option_and_then as_array (get (codes "methodCalls") d)))
    (created_in (get (codes "createdIds") d))

-- ---- the checks in order

abbrev pub core_capability : List ℕ
core_capability = codes "urn:ietf:params:jmap:core"

abbrev pub mail_capability : List ℕ
mail_capability = codes "urn:ietf:params:jmap:mail"

abbrev pub is_capability : List ℕ → Bool
is_capability name = bytes_eq name core_capability || bytes_eq name mail_capability

abbrev pub using_of : List (List ℕ) → Using
using_of names = record { core = is_among core_capability names; mail = is_among mail_capability names }

-- the form names no other capability, and has at most `MAX_CALLS_IN_REQUEST`
abbrev pub admitted : Form → Result RequestData RequestError
admitted form = if list_all is_capability form.uses
    then (if nat_lt MAX_CALLS_IN_REQUEST (length form.calls) then Err (Limit MaxCallsInRequest)
    else Ok (record { uses = using_of form.uses; calls = form.calls; created = form.created }))
    else Err UnknownCapability

abbrev pub admitted_form : Option Form → Result RequestData RequestError
admitted_form None = Err NotRequest
admitted_form (Some form) = admitted form

-- a body is JSON where it is UTF-8 and reads as a value
abbrev pub json_in : List ℕ → Option Data
json_in body = if is_utf8 body then read body else None

abbrev pub request_of : Option Data → Result RequestData RequestError
request_of None = Err NotJson
request_of (Some d) = admitted_form (form_of d)

-- what a body asks, or the first refusal
abbrev pub requested : List ℕ → Result RequestData RequestError
requested body = request_of (json_in body)
