use Rattle.std.proofs.Common.{ℕ, List, Bor}
use Rattle.std.specs.Prelude.{IfSome}
use Rattle.header_tokens.specs.reading.ClosingCounts.{TellClosings}
use Rattle.loose_addresses.proofs.ElementLemmas.{LooseSoFar, left_len}
use Rattle.loose_addresses.proofs.forms.addresses_in.Given as goal

abbrev pub invariant-loop-rest : goal.invariant-loop-rest
invariant-loop-rest l = record {
  tell : IfSome l.rest (λ (t : Bor (List ℕ)). TellClosings l.closed.items t.now);
  so_far : LooseSoFar l.addresses.items l.rest l.text;
}

abbrev pub decreases-loop-rest : goal.decreases-loop-rest
decreases-loop-rest l = left_len l.rest
