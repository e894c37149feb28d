use Rattle.std.proofs.Common.{◌≡◌, ◌++◌, map, filter, drop}
use Rattle.mail_maps.specs.Visible.{Placed, placed_in}
use Rattle.mail_rows.specs.reading.RowPass.{is_unmarked}
use Rattle.mail_rows.proofs.arrivals.add_folder.Given as goal

abbrev pub invariant-loop-message : goal.invariant-loop-message
invariant-loop-message l =
    l.arrivals.items ++ filter (is_unmarked l.marks) (map {B = Placed} (λ x. record { folder = l.held.folder.number; message = x }) (drop l.message-index l.message-items))
    ≡ l.initial.arrivals.items ++ filter (is_unmarked l.marks) (placed_in l.held)
