use Rattle.std.proofs.Common.{ℕ, List, Bor}
use Rattle.std.specs.Prelude.{IfSome}
use Rattle.header_tokens.specs.reading.ClosingCounts.{TellClosings}
use Rattle.mime_fields.proofs.ParameterLemmas.{FirstSoFar, left_len}
use Rattle.mime_fields.proofs.parameters.parameter.Given as goal

abbrev pub invariant-loop-rest : goal.invariant-loop-rest
invariant-loop-rest l = record {
  tell : IfSome l.rest (λ (t : Bor (List ℕ)). TellClosings l.closed t.now);
  so_far : FirstSoFar l.name l.rest l.after_first;
}

abbrev pub decreases-loop-rest : goal.decreases-loop-rest
decreases-loop-rest l = left_len l.rest
