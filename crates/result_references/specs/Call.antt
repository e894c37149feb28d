-- A method call, or the response to one (RFC 8620 sections 3.2 and 3.4): the method's name, its arguments and the id of the call.
use Rattle.std.specs.Prelude.{ℕ, List}
use Rattle.serde_json.specs.Data.{Data}
use Rattle.serde_json.specs.View.{view}
use Rattle.result_references.specs.declared.call.Call.{Call}

pub record CallData : Type 0 where
  pub name : List ℕ
  pub arguments : Data
  pub id : List ℕ

abbrev pub call_data : Call → CallData
call_data call = record { name = call.name; arguments = view call.arguments; id = call.id }
