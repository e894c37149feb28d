use Rattle.std.proofs.Common.{◌≡◌, ◌++◌, take}
use Rattle.header_addresses.proofs.address_lists.push_members.Given as goal

abbrev pub invariant-loop-address : goal.invariant-loop-address
invariant-loop-address l = l.all.items ≡ l.initial.all.items ++ take l.address-index l.members
