use Rattle.std.proofs.Common.{map}
use Rattle.serde_json.specs.View.{view}
use Rattle.result_references.specs.Call.{call_data}
use Rattle.gate_calls.proofs.Calling.{resolved, unresolved}
use Rattle.gate_calls.proofs.calls.method_result.Goals as goal

pub returns-in-Ok-clause-meant : goal.returns-in-Ok-clause-meant
returns-in-Ok-clause-meant g c = λ uses named.
    resolved (g.C.CallSource.answers c.args.uploads.now) (g.C.CallSource.lacks c.args.uploads.now) uses _ _ (map call_data c.args.earlier.now)
    (call_data c.args.call.now) c.args.method (view c.in-Ok.arguments) c.reply.result named c.in-Ok.ensures c.reply.ensures.meant

pub returns-in-Err-clause-meant : goal.returns-in-Err-clause-meant
returns-in-Err-clause-meant g c = λ uses named.
    unresolved (g.C.CallSource.answers c.args.uploads.now) (g.C.CallSource.lacks c.args.uploads.now) uses _ (map call_data c.args.earlier.now)
    (call_data c.args.call.now) c.args.method c.in-Err.error named c.in-Err.ensures
