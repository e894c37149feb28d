use Rattle.told_folder.proofs.KeyedLemmas.{held_found, free_found}
use Rattle.told_folder.proofs.keyed.find.Goals as goal

pub returns-in-Ok : goal.returns-in-Ok
returns-in-Ok g c = held_found g.T.Keyed.key_of _ c.args.items.now c.requires c.in-Ok.at c.in-Ok.ensures _ c.index-items-at.is

pub returns-in-Err : goal.returns-in-Err
returns-in-Err g c = free_found g.T.Keyed.key_of _ c.args.items.now c.requires _ c.in-Err.ensures
