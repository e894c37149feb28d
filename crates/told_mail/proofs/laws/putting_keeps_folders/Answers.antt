use Rattle.told_mail.proofs.WellLemmas.{well_with_folder}
use Rattle.told_mail.proofs.laws.putting_keeps_folders.Goals as goal

pub returns : goal.returns
returns c = λ m p w. well_with_folder m c.args.folder.now p w
