use Rattle.std.proofs.Common.{◌≡◌, ◌++◌, map}
use Rattle.serde_json.specs.View.{members_view}
use Rattle.set_patches.specs.Patches.{properties_in}
use Rattle.set_patches.specs.reading.Parts.{part_data}
use Rattle.set_patches.proofs.patches.properties_of.Given as goal

-- the properties so far, and those of the members that are left
abbrev pub invariant-loop-key : goal.invariant-loop-key
invariant-loop-key l = map part_data l.parts.items ++ properties_in (members_view l.key-iterator) ≡ properties_in (members_view l.object.entries)
