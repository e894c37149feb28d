use Rattle.std.proofs.Common.{◌≡◌, drop}
use Rattle.std.specs.List.{slice_get}
use Rattle.small_answers.specs.OwnersCalls.{message_at_place, messages_in_order}
use Rattle.small_store.proofs.owner.place_among_all.Given as goal

abbrev pub invariant-loop-place : goal.invariant-loop-place
invariant-loop-place l = slice_get (messages_in_order (drop l.place l.mail.folders)) l.left ≡ message_at_place l.mail l.fn.at
