use Rattle.std.proofs.Common.{◌≡◌, ◌≤◌, length}
use Rattle.mail_maps.specs.reading.Fronts.{front_below}
use Rattle.mail_maps.proofs.hierarchy.parent_below.Given as goal

abbrev pub invariant-loop-len : goal.invariant-loop-len
invariant-loop-len l = record {
  within : l.len ≤ length l.name;
  fronts : front_below l.mirror.mail.folders l.name l.delimiter l.len ≡ front_below l.mirror.mail.folders l.name l.delimiter (length l.name);
}

abbrev pub decreases-loop-len : goal.decreases-loop-len
decreases-loop-len l = l.len
