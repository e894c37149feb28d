use Rattle.std.proofs.Common.{◌∙◌, ap, map, List}
use Rattle.std.proofs.lemmas.Result.{err_from_is_err_and}
use Rattle.jmap_core.specs.CreatedIds.{Ids}
use Rattle.jmap_core.specs.Request.{request_data}
use Rattle.result_references.specs.Call.{call_data}
use Rattle.result_references.specs.declared.call.Call.{Call}
use Rattle.gate_serving.specs.Doing.{ids_told}
use Rattle.gate_serving.proofs.Made.{calls_lacked, calls_made, told_are}
use Rattle.gate_serving.proofs.answers.calls_response.Goals as goal

pub returns-in_err-responses : goal.returns-in_err-responses
returns-in_err-responses g c =
    let ends = err_from_is_err_and c.from_residual.result c.from_residual.ensures.1 in (
      c.responses_to.new.created,
      calls_lacked (g.C.CallSource.answers c.args.uploads.now) (g.C.CallSource.lacks c.args.uploads.now)
          ((c.responses_to.new.source, c.responses_to.new.world), c.responses_to.new.created)
          (ap (λ (ids : Ids). ((c.args.source.now, c.args.world.now), ids)) c.ids_begun-ids.ensures) _ (request_data c.args.request) _ c.from_residual.result ends.0 ends.1
          (ap (λ (cs : List Call). map call_data cs) c.as_slice.ensures.value) c.in_err-responses.ensures.meant,
    )

pub returns : goal.returns
returns g c = (
  c.responses_to.new.created,
  calls_made (g.C.CallSource.answers c.args.uploads.now) (g.C.CallSource.lacks c.args.uploads.now)
      ((c.responses_to.new.source, c.responses_to.new.world), c.responses_to.new.created)
      (ap (λ (ids : Ids). ((c.args.source.now, c.args.world.now), ids)) c.ids_begun-ids.ensures) c.args.door c.args.account.now.user c.args.account.now.base
      (request_data c.args.request) (ids_told (request_data c.args.request).created c.responses_to.new.created) _ _ (map call_data c.in_ok-responses.responses.items) _
      c.responses_answer.result
      (c.ids_to_tell-told.ensures ∙ told_are (request_data c.args.request).created c.responses_to.new.created c.is_some-gives.result c.is_some-gives.ensures)
      (ap (λ (cs : List Call). map call_data cs) c.as_slice.ensures.value) (ap (λ (cs : List Call). map call_data cs) c.as_slice-2.ensures.value)
      c.in_ok-responses.ensures.meant c.responses_answer.ensures,
)
