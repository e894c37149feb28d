use Rattle.std.proofs.Common.{sym, ◌∙◌}
use Rattle.gate_calls.specs.MethodNames.{needs_mail_by}
use Rattle.result_references.specs.Call.{CallData, call_data}
use Rattle.gate_calls.proofs.Calling.{any_map}
use Rattle.gate_calls.proofs.needs.needs_mail.Goals as goal

pub returns : goal.returns
returns c = c.any_needs_mail.ensures ∙ sym (any_map call_data (λ (d : CallData). needs_mail_by d.name) c.args.calls.now)
