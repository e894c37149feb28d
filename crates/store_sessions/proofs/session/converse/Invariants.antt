use Rattle.std.proofs.Common.{◌+◌, ◌*◌, ◌≡◌, ◌≤◌, length}
use Rattle.gate_world.specs.Causes.{FrontAlone}
use Rattle.gate_world.specs.Tape.{Adds}
use Rattle.small_responses.specs.Tellable.{IsTellableMail}
use Rattle.store_sessions.specs.Sessions.{octet_limit}
use Rattle.store_sessions.specs.reading.Going.{Stands}
use Rattle.store_sessions.proofs.session.converse.Given as goal

-- so many octets came since the greeting, and what they came to was told
abbrev pub invariant-loop-unread : goal.invariant-loop-unread
invariant-loop-unread g l =
    record {
      tape : Adds (g.F.Taped.tape l.fn.front) (g.F.Taped.tape l.front) (Stands (g.S.CommandStore.session l.fn.store)
          (g.S.CommandStore.session l.store) l.unread l.left);
      left : l.left ≤ octet_limit;
      mail : IsTellableMail (g.S.CommandStore.session l.store).mail;
      alone : FrontAlone (g.F.Taped.faults l.fn.front) (g.F.Taped.faults l.front);
      hidden : g.F.Taped.hidden l.front ≡ g.F.Taped.hidden l.fn.front;
    }

abbrev pub decreases-loop-unread : goal.decreases-loop-unread
decreases-loop-unread g l = 2 * l.left + length l.unread
