use Rattle.std.proofs.Common.{arith, sym}
use Rattle.std.proofs.lemmas.List.{length-take, take_all}
use Rattle.store_causes.proofs.beginning.first_octets.Goals as goal

pub slice_bounds-result-end : goal.slice_bounds-result-end
slice_bounds-result-end c = omega (arith, length-take 60 c.args.octets.now)

pub returns-then-octets-le-MAX_BEGINNING_OCTETS : goal.returns-then-octets-le-MAX_BEGINNING_OCTETS
returns-then-octets-le-MAX_BEGINNING_OCTETS c = sym (take_all 60 c.args.octets.now (omega arith))
