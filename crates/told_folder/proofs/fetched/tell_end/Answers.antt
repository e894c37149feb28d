use Rattle.told_folder.proofs.StepLemmas.{kept_told}
use Rattle.told_folder.proofs.fetched.tell_end.Goals as goal

pub returns-in_ok-untold_by-in-FetchFlags : goal.returns-in_ok-untold_by-in-FetchFlags
returns-in_ok-untold_by-in-FetchFlags c =
    kept_told _ _ c.args.folder.now c.args.command.now c.args.responses.now _ c.in-FetchFlags.is c.in_ok-untold_by-in-FetchFlags.ensures c.tell_gone.ensures
