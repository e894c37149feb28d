use Rattle.std.proofs.Common.{◌≡◌, drop}
use Rattle.client_front.specs.HeadEnd.{after_octets}
use Rattle.client_front.proofs.progress.after_octets.Given as goal

-- all octets lead to what those that are left lead to from here
abbrev pub invariant-loop-octet : goal.invariant-loop-octet
invariant-loop-octet l = after_octets l.now l.octets l.initial.progress ≡ after_octets l.now (drop l.octet-index l.octets) l.progress
