use Rattle.std.proofs.Common.{map, drop}
use Rattle.serde_json.specs.View.{items_view}
use Rattle.draft_reading.specs.Parts.{attachment_in}
use Rattle.draft_reading.specs.reading.Views.{attached_view}
use Rattle.draft_reading.proofs.ItemLemmas.{IsSoFar}
use Rattle.draft_reading.proofs.attachments.each_attachment.Given as goal

-- what was asked so far, and what the items that are left ask, is what all ask
abbrev pub invariant-loop-item : goal.invariant-loop-item
invariant-loop-item l = IsSoFar attachment_in (items_view l.item-items) (map attached_view l.list.items) (items_view (drop l.item-index l.item-items))
