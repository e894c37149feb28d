-- So far the copies are the names before the index.
use Rattle.std.proofs.Common.{◌≡◌, take}
use Rattle.octets.proofs.names.Names.share.Given as goal

abbrev pub invariant-loop-name : goal.invariant-loop-name
invariant-loop-name l = l.names.items ≡ take l.name-index l.name-items
