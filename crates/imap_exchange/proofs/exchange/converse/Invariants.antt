use Rattle.std.proofs.Common.{◌≡◌, ◌+◌, ◌≤◌, min, length, false}
use Rattle.gate_world.specs.Causes.{LinkAlone, Rose}
use Rattle.gate_world.specs.Tape.{Adds}
use Rattle.imap_exchange.specs.Received.{room_left}
use Rattle.imap_exchange.specs.Exchanges.{continuations}
use Rattle.imap_exchange.proofs.Conversing.{Course}
use Rattle.imap_exchange.proofs.exchange.converse.Given as goal

abbrev pub invariant-conversing : goal.invariant-conversing
invariant-conversing g l =
    record {
      tape : Adds (g.L.Taped.tape l.fn.link) (g.L.Taped.tape l.link) (Course l.pieces l.fn.received l.received l.responses.items l.at l.up l.taken);
      place : l.at ≡ min (continuations l.responses.items + 1) (length l.pieces);
      room : room_left l.received ≤ room_left l.fn.received;
      begun : l.begun ≤ l.received.given;
      down : l.up ≡ false → Rose (g.L.Taped.faults l.fn.link).link (g.L.Taped.faults l.link).link;
      alone : LinkAlone (g.L.Taped.faults l.fn.link) (g.L.Taped.faults l.link);
      hidden : g.L.Taped.hidden l.link ≡ g.L.Taped.hidden l.fn.link;
    }

abbrev pub decreases-conversing : goal.decreases-conversing
decreases-conversing g l = room_left l.received
