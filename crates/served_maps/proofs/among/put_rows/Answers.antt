use Rattle.served_maps.proofs.AmongLemmas.{put_more, put_ended}
use Rattle.served_maps.proofs.among.put_rows.Goals as goal

pub loop-id-preserved : goal.loop-id-preserved
loop-id-preserved g c = λ q. put_more q (c.in-Some.id, c.in-Some.row) _ _ _ _ _ c.in-Some.ensures.steps (c.in_ok-insert.ensures.updates.0 q) (c.loop-id.invariant q)

pub returns : goal.returns
returns g c = λ q. put_ended q _ _ _ c.in-None.ensures.steps.0 (c.loop-id.invariant q)
