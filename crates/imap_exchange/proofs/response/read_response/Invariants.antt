use Rattle.std.proofs.Common.{◌≡◌, ◌-◌, ◌≤◌, ℕ, List, length, take}
use Rattle.gate_world.specs.Causes.{LinkAlone}
use Rattle.gate_world.specs.Tape.{Adds}
use Rattle.imap_grammar.specs.Fed.{IsScannerFed}
use Rattle.imap_exchange.specs.Received.{most_given, room_left}
use Rattle.imap_exchange.specs.reading.Filling.{GainsOctets}
use Rattle.imap_exchange.proofs.response.read_response.Given as goal

abbrev pub invariant-reading : goal.invariant-reading
invariant-reading g l =
    record {
      tape : Adds (g.L.Taped.tape l.fn.link) (g.L.Taped.tape l.link) (λ es. (gave : List ℕ) × GainsOctets l.begun l.fn.received l.received gave es);
      fed : IsScannerFed l.scanner (take l.fed l.received.octets);
      within : l.fed ≤ length l.received.octets;
      room : room_left l.received ≡ room_left l.fn.received;
      given : l.fn.received.given ≤ l.received.given;
      alone : LinkAlone (g.L.Taped.faults l.fn.link) (g.L.Taped.faults l.link);
      hidden : g.L.Taped.hidden l.link ≡ g.L.Taped.hidden l.fn.link;
    }

abbrev pub decreases-reading : goal.decreases-reading
decreases-reading g l = most_given - l.received.given
