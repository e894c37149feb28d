use Rattle.mail_maps.proofs.IdLemmas.{push_turn}
use Rattle.mail_maps.proofs.header.push_all.Goals as goal

pub loop-id-preserved : goal.loop-id-preserved
loop-id-preserved c =
    push_turn c.args.text.now.items c.loop-id.text.items c.push_id.new.text.items c.as_slice-id-items.result.now c.loop-id.id-index c.id-item.result c.as_slice.result.now
    c.loop-id-test.true c.id-item.is c.as_slice.ensures c.loop-id.invariant c.in_ok-push_id.ensures
