use Rattle.std.proofs.Common.{◌≡◌, drop, map}
use Rattle.std.specs.List.{find}
use Rattle.std.specs.Str.{bytes_eq}
use Rattle.result_references.specs.Call.{call_data}
use Rattle.result_references.proofs.sources.call_with.Given as goal

-- the first of all is the first of those that are left
abbrev pub invariant-loop-call : goal.invariant-loop-call
invariant-loop-call l = find (λ c. bytes_eq c.id l.id) (map call_data l.earlier) ≡ find (λ c. bytes_eq c.id l.id) (map call_data (drop l.call-index l.earlier))
