use Rattle.std.proofs.Common.{◌≡◌, false, map, take}
use Rattle.gate_world.specs.Causes.{LinkAlone, NoFault}
use Rattle.gate_world.specs.Tape.{Adds}
use Rattle.told_mail.specs.Mail.{IsNextMail}
use Rattle.imap_client.specs.Rounds.{CountsOn}
use Rattle.set_order.specs.reading.Items.{item_data}
use Rattle.set_calls.specs.Calls.{items_of}
use Rattle.set_calls.specs.reading.Calling.{done_data}
use Rattle.set_calls.proofs.Steps.{SoFar}
use Rattle.set_calls.proofs.items.run_items.Given as goal

abbrev pub invariant-loop-item : goal.invariant-loop-item
invariant-loop-item g l =
    record {
      told : Adds (g.L.Taped.tape l.fn.link) (g.L.Taped.tape l.link)
          (SoFar l.call l.fn.client l.fn.mirror (g.L.Taped.faults l.fn.link).link l.client l.mirror l.made l.changed l.done.items
          (g.L.Taped.faults l.link).link);
      items : items_of (map done_data l.done.items) ≡ map item_data (take l.item-index l.items);
      counts : CountsOn l.fn.mirror l.mirror;
      next : IsNextMail l.fn.mirror.mail l.mirror.mail;
      idle : l.fn.client.alive ≡ false → (l.client ≡ l.fn.client) × NoFault (g.L.Taped.faults l.fn.link) (g.L.Taped.faults l.link);
      alone : LinkAlone (g.L.Taped.faults l.fn.link) (g.L.Taped.faults l.link);
      hidden : g.L.Taped.hidden l.link ≡ g.L.Taped.hidden l.fn.link;
    }
