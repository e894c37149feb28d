use Rattle.std.proofs.Common.{◌≡◌, drop, map}
use Rattle.set_replies.specs.Created.{created_in}
use Rattle.set_replies.specs.reading.Items.{done_data}
use Rattle.set_replies.specs.reading.Types.{AreApart, served_in}
use Rattle.set_replies.proofs.created.put_all_made.Given as goal

-- the ids by all are those so far with those of the items that are left
abbrev pub invariant-loop-entry : goal.invariant-loop-entry
invariant-loop-entry l = AreApart l.state.rows.numbered.rows
    → created_in (served_in l.state) l.created (map done_data (drop l.entry-index l.done)) ≡ created_in (served_in l.state) l.fn.created (map done_data l.done)
