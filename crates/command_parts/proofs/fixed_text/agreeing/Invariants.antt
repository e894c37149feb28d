use Rattle.std.proofs.Common.{◌≡◌, ◌≤◌, ◌+◌, drop, length}
use Rattle.command_parts.specs.reading.FixedTexts.{agreeing}
use Rattle.command_parts.proofs.fixed_text.agreeing.Given as goal

abbrev pub invariant-loop-i : goal.invariant-loop-i
invariant-loop-i l = record {
  count : l.i + agreeing (drop l.i l.text) (drop l.i l.bytes) ≡ agreeing l.text l.bytes;
  within : l.i ≤ length l.bytes;
}
