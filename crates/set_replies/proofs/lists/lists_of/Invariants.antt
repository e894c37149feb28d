use Rattle.std.proofs.Common.{◌≡◌, drop, map}
use Rattle.set_replies.specs.Lists.{lists_of, lists_with}
use Rattle.set_replies.specs.reading.Items.{done_data}
use Rattle.set_replies.specs.reading.Listing.{lists_data}
use Rattle.set_replies.specs.reading.Types.{AreApart, served_in}
use Rattle.set_replies.specs.reading.Whole.{AreWhole}
use Rattle.set_replies.proofs.lists.lists_of.Given as goal

-- the lists of all are those so far with the items that are left
abbrev pub invariant-loop-entry : goal.invariant-loop-entry
invariant-loop-entry l = record {
  listed : AreApart l.state.rows.numbered.rows
      → lists_with l.method (served_in l.state) (lists_data l.lists) (map done_data (drop l.entry-index l.done)) ≡ lists_of l.method (served_in l.state) (map done_data l.done);
  whole : AreWhole (lists_data l.lists);
}
