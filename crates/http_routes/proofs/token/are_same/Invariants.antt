use Rattle.std.proofs.Common.{take}
use Rattle.http_routes.proofs.Compared.{Compared}
use Rattle.http_routes.proofs.token.are_same.Given as goal

abbrev pub invariant-loop-at : goal.invariant-loop-at
invariant-loop-at l = Compared l.difference (take l.at l.one) (take l.at l.other)
