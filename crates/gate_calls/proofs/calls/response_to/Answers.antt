use Rattle.std.proofs.Common.{map}
use Rattle.result_references.specs.Call.{call_data}
use Rattle.gate_calls.proofs.Calling.{responds}
use Rattle.gate_calls.proofs.calls.response_to.Goals as goal

pub returns-clause-meant : goal.returns-clause-meant
returns-clause-meant g c =
    responds (g.C.CallSource.answers c.args.uploads.now) (g.C.CallSource.lacks c.args.uploads.now) c.args.uses _ _ (map call_data c.args.earlier.now)
    (call_data c.args.call.now) c.call_result-came.result c.response_of.result c.call_result-came.ensures.meant c.response_of.ensures.meant
