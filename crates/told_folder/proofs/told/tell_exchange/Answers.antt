use Rattle.told_folder.proofs.StepLemmas.{told_whole}
use Rattle.told_folder.proofs.told.tell_exchange.Goals as goal

pub returns : goal.returns
returns c =
    told_whole c.args.work.now c.tell_start.new.work c.tell_responses.new.work _ c.args.folder.now c.tell_start.new.folder _ c.args.command.now c.args.responses.now
    c.is_adding.result _ c.tell_start.ensures c.is_adding.ensures c.in_ok-tell_responses.ensures c.tell_end.ensures
