use Rattle.std.proofs.Common.{◌≡◌, ◌+◌, ◌≤◌, drop, length, min, sum_by}
use Rattle.told_folder.specs.declared.message.Message.{Message}
use Rattle.check_report.proofs.finding.header_octets.Given as goal

abbrev pub invariant-loop-message : goal.invariant-loop-message
invariant-loop-message l =
    (l.octets ≤ 18446744073709551615) × (min (l.octets + sum_by (λ (m : Message). length m.header) (drop l.message-index l.messages)) 18446744073709551615
    ≡ min (sum_by (λ (m : Message). length m.header) l.messages) 18446744073709551615)
