use Rattle.std.proofs.Common.{◌≡◌, ◌++◌, drop}
use Rattle.std.specs.List.{flat_map}
use Rattle.header_addresses.specs.Names.{members_in}
use Rattle.header_addresses.proofs.address_lists.flattened.Given as goal

abbrev pub invariant-loop-group : goal.invariant-loop-group
invariant-loop-group l = l.all.items ++ flat_map members_in (drop l.group-index l.groups) ≡ flat_map members_in l.groups
