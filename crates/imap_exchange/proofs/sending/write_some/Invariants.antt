use Rattle.std.proofs.Common.{◌≡◌, ◌≤◌, ◌-◌, [], length, take}
use Rattle.gate_world.specs.Causes.{LinkAlone}
use Rattle.gate_world.specs.Octets.{Talk}
use Rattle.gate_world.specs.Tape.{Adds}
use Rattle.imap_exchange.proofs.sending.write_some.Given as goal

abbrev pub invariant-writing : goal.invariant-writing
invariant-writing g l =
    record {
      tape : Adds (g.L.Taped.tape l.fn.link) (g.L.Taped.tape l.link) (Talk [] (take l.count l.octets));
      within : l.count ≤ length l.octets;
      alone : LinkAlone (g.L.Taped.faults l.fn.link) (g.L.Taped.faults l.link);
      hidden : g.L.Taped.hidden l.link ≡ g.L.Taped.hidden l.fn.link;
    }

abbrev pub decreases-writing : goal.decreases-writing
decreases-writing g l = length l.octets - l.count
