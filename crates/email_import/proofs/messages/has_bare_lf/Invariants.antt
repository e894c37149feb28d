use Rattle.std.proofs.Common.{◌≡◌, drop, false}
use Rattle.email_import.specs.reading.Found.{has_bare}
use Rattle.email_import.proofs.messages.has_bare_lf.Given as goal

abbrev pub invariant-loop-octet : goal.invariant-loop-octet
invariant-loop-octet l = has_bare l.behind_cr (drop l.octet-index l.octets) ≡ has_bare false l.octets
