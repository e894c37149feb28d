use Rattle.std.proofs.Common.{ap, length, arith}
use Rattle.store_causes.proofs.Beginnings.{beginning_short}
use Rattle.store_causes.proofs.beginning.beginning_after.Goals as goal

pub stands_in-requires : goal.stands_in-requires
stands_in-requires c = omega (arith, ap length c.as_slice.ensures, ap length c.in_ok-told.ensures, beginning_short c.args.unread.now)
