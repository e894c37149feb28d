use Rattle.std.proofs.Common.{ap, ◌∙◌}
use Rattle.std.specs.Prelude.{is_some}
use Rattle.serde_json.specs.View.{view}
use Rattle.draft_reading.specs.Values.{id_in, list_in}
use Rattle.draft_reading.proofs.PropertyLemmas.{same_truth}
use Rattle.draft_reading.proofs.checks.are_ids.Goals as goal

pub returns : goal.returns
returns c =
    same_truth c.is_some.result (is_some (list_in id_in (view c.args.value.now)))
    (c.is_some.ensures ∙ ap (λ o. is_some o) c.in_ok-ids_in.ensures.value)
