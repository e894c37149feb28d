use Rattle.std.proofs.Common.{◌≡◌}
use Rattle.std.specs.List.{list_any}
use Rattle.serde_json.specs.View.{members_view}
use Rattle.set_patches.specs.Patches.{member_keys}
use Rattle.set_patches.specs.reading.Parts.{has_front}
use Rattle.set_patches.proofs.patches.one_has_front.Given as goal

-- the answer for all is that for those that are left
abbrev pub invariant-loop-key : goal.invariant-loop-key
invariant-loop-key l =
    let test = has_front (members_view l.patch.entries) in
    list_any test (member_keys (members_view l.patch.entries)) ≡ list_any test (member_keys (members_view l.key-iterator))
