use Rattle.told_folder.proofs.OpenLemmas.{held_goes, held_stays}
use Rattle.told_folder.proofs.telling.tell_held.Goals as goal

pub returns-in-Some : goal.returns-in-Some
returns-in-Some c = λ adds. held_goes _ _ c.args.uid c.args.items.now _ _ adds c.requires.ascends c.requires.held c.in-Some.is c.set_flags.ensures

pub returns-in-None : goal.returns-in-None
returns-in-None c = λ adds. held_stays _ c.args.uid c.args.items.now adds c.requires.ascends c.requires.held c.in-None.is
