use Rattle.std.proofs.Common.{◌≡◌, drop}
use Rattle.std.specs.List.{list_any}
use Rattle.gate_words.specs.Rules.{is_control}
use Rattle.gate_words.proofs.rules.has_control.Given as goal

-- the answer for all is that for what is left
abbrev pub invariant-loop-octet : goal.invariant-loop-octet
invariant-loop-octet l = list_any is_control l.text ≡ list_any is_control (drop l.octet-index l.octet-items)
