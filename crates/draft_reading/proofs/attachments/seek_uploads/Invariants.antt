use Rattle.std.proofs.Common.{map, take}
use Rattle.draft_reading.specs.reading.Views.{attached_view}
use Rattle.draft_reading.proofs.UploadLemmas.{Sought}
use Rattle.draft_reading.proofs.attachments.seek_uploads.Given as goal

-- of those so far, the uploads that are kept, and the ids of the others
abbrev pub invariant-loop-one : goal.invariant-loop-one
invariant-loop-one l = Sought l.blobs (map attached_view (take l.one-index l.asked)) l.found.items (map (λ t. t.now) l.missing.items)
