use Rattle.std.proofs.Common.{Vec, Global, map, sym, ap, ◌∙◌}
use Rattle.std.specs.Prelude.{is_some}
use Rattle.serde_json.specs.View.{view}
use Rattle.draft_reading.specs.Parts.{attachment_in}
use Rattle.draft_reading.specs.Values.{list_in}
use Rattle.draft_reading.specs.declared.attached.Attached.{Attached}
use Rattle.draft_reading.specs.reading.Views.{attached_view}
use Rattle.draft_reading.proofs.PropertyLemmas.{same_truth}
use Rattle.draft_reading.proofs.ReadingLemmas.{some_mapped}
use Rattle.draft_reading.proofs.checks.are_attachments.Goals as goal

pub returns : goal.returns
returns c =
    same_truth c.is_some.result (is_some (list_in attachment_in (view c.args.value.now)))
    (c.is_some.ensures ∙ sym (some_mapped (λ (v : Vec Attached Global). map attached_view v.items) c.in_ok-attachments_in.field-0)
    ∙ ap (λ o. is_some o) c.in_ok-attachments_in.ensures)
