use Rattle.std.proofs.Common.{sym, ap, ◌∙◌}
use Rattle.std.proofs.lemmas.List.{append-nil}
use Rattle.http_service.specs.Refusals.{refusal_status}
use Rattle.gate_serving.specs.declared.door.Door.{Door}
use Rattle.gate_serving.specs.Answers.{empty_answer, spelled}
use Rattle.gate_serving.proofs.response.Response.empty.Goals as goal

pub returns-in-Http : goal.returns-in-Http
returns-in-Http c =
    c.refusal.ensures ∙ sym (append-nil _) ∙ ap (λ (d : Door). spelled d (empty_answer (refusal_status c.args.refusal))) (sym c.in-Http.is)
