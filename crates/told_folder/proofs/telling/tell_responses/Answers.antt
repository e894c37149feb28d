use Rattle.std.proofs.Common.{arith}
use Rattle.told_folder.proofs.OpenLemmas.{goes_on_to, tell_step, known_step}
use Rattle.told_folder.proofs.telling.tell_responses.Goals as goal

pub loop-response-preserved : goal.loop-response-preserved
loop-response-preserved c = record {
  on = goes_on_to _ _ _ c.loop-response.invariant.on c.tell_response.ensures.on;
  ascends = c.tell_response.ensures.ascends c.loop-response.invariant.ascends;
  told = tell_step c.args.adds _ c.args.responses.now _ c.response-item.result _ _
      (omega arith) c.response-item.is c.loop-response.invariant.told c.in_ok-tell_response.ensures.told;
  known = known_step c.args.adds c.args.work.now c.loop-response.work c.args.responses.now _ c.response-item.result c.tell_response.new.work.changes
      (omega arith) c.response-item.is c.loop-response.invariant.told c.loop-response.invariant.known c.in_ok-tell_response.ensures.known;
  index = λ hs i. c.tell_response.ensures.index hs (c.loop-response.invariant.index hs i);
}
