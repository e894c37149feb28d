use Rattle.std.proofs.Common.{◌≡◌, map}
use Rattle.std.specs.Prelude.{IsSome}
use Rattle.gate_world.specs.Causes.{LinkAlone}
use Rattle.gate_world.specs.Tape.{Adds}
use Rattle.set_calls.specs.reading.Calling.{done_data}
use Rattle.gate_changes.proofs.Course.{AreTaken, Imported}
use Rattle.gate_changes.proofs.importing.import_items.Given as goal

abbrev pub invariant-loop-item : goal.invariant-loop-item
invariant-loop-item g l =
    record {
      told : Adds (g.L.Taped.tape l.fn.link) (g.L.Taped.tape l.link)
          (Imported l.uploads l.created l.making l.fn.machine l.fn.client (g.L.Taped.faults l.fn.link) (map done_data l.done.items) l.made l.machine l.client
          (g.L.Taped.faults l.link));
      items : AreTaken l.items l.item-index (map done_data l.done.items);
      ready : IsSome l.machine.known;
      alone : LinkAlone (g.L.Taped.faults l.fn.link) (g.L.Taped.faults l.link);
      hidden : g.L.Taped.hidden l.link ≡ g.L.Taped.hidden l.fn.link;
    }
