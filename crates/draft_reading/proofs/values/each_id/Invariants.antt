use Rattle.std.proofs.Common.{◌≡◌, true, drop}
use Rattle.std.specs.List.{list_all}
use Rattle.serde_json.specs.View.{items_view}
use Rattle.mail_drafts.specs.Identifiers.{is_identifier}
use Rattle.draft_reading.specs.Values.{id_in}
use Rattle.draft_reading.proofs.ItemLemmas.{IsSoFar}
use Rattle.draft_reading.proofs.values.each_id.Given as goal

-- the ids so far, and those of the items that are left, are those of all
abbrev pub invariant-loop-item : goal.invariant-loop-item
invariant-loop-item l = record {
  read : IsSoFar id_in (items_view l.item-items) l.ids (items_view (drop l.item-index l.item-items));
  identifiers : list_all is_identifier l.ids ≡ true;
}
