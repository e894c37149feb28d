use Rattle.std.proofs.Common.{map, drop}
use Rattle.serde_json.specs.View.{items_view}
use Rattle.draft_reading.specs.Mailboxes.{said}
use Rattle.draft_reading.proofs.AddressLemmas.{ReadSoFar}
use Rattle.draft_reading.proofs.mailboxes.each_mailbox.Given as goal

-- the mailboxes so far, and those of the items that are left, are those of all; those so far read alone
abbrev pub invariant-loop-item : goal.invariant-loop-item
invariant-loop-item l = ReadSoFar (items_view l.item-items) (map said l.mailboxes.items) (items_view (drop l.item-index l.item-items))
