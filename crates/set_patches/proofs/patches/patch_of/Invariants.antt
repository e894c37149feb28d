use Rattle.std.proofs.Common.{◌≡◌, ◌++◌, map}
use Rattle.serde_json.specs.View.{members_view}
use Rattle.set_patches.specs.Patches.{patch_in}
use Rattle.set_patches.specs.reading.Parts.{part_data}
use Rattle.set_patches.proofs.patches.patch_of.Given as goal

-- the parts so far, and those of the members that are left
abbrev pub invariant-loop-key : goal.invariant-loop-key
invariant-loop-key l = map part_data l.parts.items ++ patch_in (members_view l.key-iterator) ≡ patch_in (members_view l.patch.entries)
