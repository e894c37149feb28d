use Rattle.std.proofs.Common.{◌≡◌, ◌++◌, drop}
use Rattle.check_report.specs.Shown as texts
use Rattle.check_report.proofs.shown.shown.Given as goal

abbrev pub invariant-loop-octet : goal.invariant-loop-octet
invariant-loop-octet l = l.out.items ++ texts.shown (drop l.octet-index l.octets) ≡ texts.shown l.octets
