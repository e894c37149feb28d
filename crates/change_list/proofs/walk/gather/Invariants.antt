use Rattle.std.proofs.Common.{◌≡◌, ◌+◌, drop}
use Rattle.change_list.proofs.Gathering.{SoFar}
use Rattle.change_list.proofs.walk.gather.Given as goal

abbrev pub invariant-loop-i : goal.invariant-loop-i
invariant-loop-i l = record { place : l.i ≡ l.start + l.taken; so_far : SoFar (drop l.start l.ring.items) l.max l.seen l.taken }
