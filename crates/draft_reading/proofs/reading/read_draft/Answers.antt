use Rattle.std.proofs.Common.{List, map, ap, ◌∙◌, subst}
use Rattle.std.specs.List.{AllZip}
use Rattle.draft_reading.specs.Parts.{Attached}
use Rattle.draft_reading.specs.Readings.{IsUpload}
use Rattle.draft_reading.specs.reading.Views.{attached_view}
use Rattle.draft_reading.proofs.reading.read_draft.Goals as goal

pub returns-clause-draft : goal.returns-clause-draft
returns-clause-draft c =
    c.in_ok-draft_of.ensures c.args.blobs.now
    (subst (λ (list : List Attached). AllZip (IsUpload c.args.blobs.now) list c.in_ok-attachments.attachments) (ap (map attached_view) c.as_slice.ensures.value ∙ c.in_ok-asked.ensures)
    c.in_ok-attachments.ensures.found)
