use Rattle.std.proofs.Common.{All, take}
use Rattle.jmap_core.specs.Response.{IsWhole}
use Rattle.gate_calls.proofs.Calling.{Answered}
use Rattle.gate_calls.proofs.calls.responses_to.Given as goal

abbrev pub invariant-loop-call : goal.invariant-loop-call
invariant-loop-call g l =
    record {
      meant : Answered (g.C.CallSource.answers l.uploads) (g.C.CallSource.lacks l.uploads) l.uses ((l.fn.source, l.fn.world), l.fn.created) ((l.source, l.world), l.created) (take l.call-index l.calls)
          l.responses.items;
      whole : All IsWhole l.responses.items;
    }
