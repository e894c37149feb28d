use Rattle.std.proofs.Common.{◌≡◌, ◌≤◌, false}
use Rattle.header_tokens.specs.reading.TokenReading.{close_in}
use Rattle.header_tokens.proofs.BracketSteps.{from}
use Rattle.header_tokens.proofs.tokens.closing.Given as goal

abbrev pub invariant-loop-i : goal.invariant-loop-i
invariant-loop-i l = record {
  shallow : l.depth ≤ l.i;
  same : from l.opener l.closer l.depth l.escaped l.text l.i ≡ close_in l.opener l.closer 0 false l.text;
}
