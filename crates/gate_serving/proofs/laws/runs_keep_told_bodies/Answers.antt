use Rattle.gate_serving.proofs.Kept.{bodies_told}
use Rattle.gate_serving.proofs.laws.runs_keep_told_bodies.Goals as goal

pub returns : goal.returns
returns c =
    bodies_told c.kept_bodies_were_told.ensures.prepared c.kept_bodies_were_told.ensures.calls
    (record { changes = c.changes_keep_bodies.ensures.changes; lacks = c.changes_keep_bodies.ensures.lacks })
