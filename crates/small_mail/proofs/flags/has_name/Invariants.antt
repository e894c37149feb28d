use Rattle.std.proofs.Common.{◌≡◌, bytes_eq, drop}
use Rattle.std.specs.List.{list_any}
use Rattle.small_mail.proofs.flags.has_name.Given as goal

abbrev pub invariant-loop-one : goal.invariant-loop-one
invariant-loop-one l = list_any (λ f. bytes_eq f l.name) (drop l.one-index l.names) ≡ list_any (λ f. bytes_eq f l.name) l.names
