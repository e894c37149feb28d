use Rattle.std.proofs.Common.{◌∙◌, ℕ, List, map, sym, ap}
use Rattle.result_references.specs.Call.{call_data}
use Rattle.gate_calls.specs.MethodNames.{method_asked}
use Rattle.gate_calls.proofs.Calling.{unnamed}
use Rattle.gate_calls.proofs.calls.call_result.Goals as goal

pub returns-in-Ok-clause-meant : goal.returns-in-Ok-clause-meant
returns-in-Ok-clause-meant g c =
    c.method_result.ensures.meant c.args.uses (ap (λ (n : List ℕ). method_asked c.args.uses n) (sym c.as_str.ensures) ∙ sym c.in-Ok.ensures)

pub returns-in-Err-clause-meant : goal.returns-in-Err-clause-meant
returns-in-Err-clause-meant g c =
    unnamed (g.C.CallSource.answers c.args.uploads.now) (g.C.CallSource.lacks c.args.uploads.now) c.args.uses _ (map call_data c.args.earlier.now)
    (call_data c.args.call.now) c.in-Err.error
    (ap (λ (n : List ℕ). method_asked c.args.uses n) (sym c.as_str.ensures) ∙ sym c.in-Err.ensures)
