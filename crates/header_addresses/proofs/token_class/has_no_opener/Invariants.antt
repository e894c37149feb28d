use Rattle.std.proofs.Common.{◌≡◌, drop, false}
use Rattle.header_addresses.specs.Mailboxes.{has_no_opener}
use Rattle.header_addresses.proofs.token_class.has_no_opener.Given as goal

abbrev pub invariant-loop-octet : goal.invariant-loop-octet
invariant-loop-octet l = has_no_opener l.escaped (drop l.octet-index l.text) ≡ has_no_opener false l.text
