use Rattle.std.proofs.Common.{◌≡◌, ◌≤◌, drop, length}
use Rattle.command_parts.specs.reading.FixedTexts.{choose}
use Rattle.command_parts.proofs.fixed_text.choose.Given as goal

abbrev pub invariant-loop-keyword : goal.invariant-loop-keyword
invariant-loop-keyword l = record {
  read : choose l.farthest (drop l.keyword-index l.fixed_texts) l.bytes ≡ choose 0 l.fixed_texts l.bytes;
  most : l.farthest ≤ length l.bytes;
}
