use Rattle.std.proofs.Common.{◌≡◌, map, take}
use Rattle.draft_reading.proofs.attachments.names_of.Given as goal

-- the names so far
abbrev pub invariant-loop-text : goal.invariant-loop-text
invariant-loop-text l = l.names ≡ map (λ t. t.now) (take l.text-index l.text-items)
