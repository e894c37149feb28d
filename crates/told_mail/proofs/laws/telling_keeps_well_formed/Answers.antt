use Rattle.told_mail.proofs.WellLemmas.{well_formed}
use Rattle.told_mail.proofs.laws.telling_keeps_well_formed.Goals as goal

pub returns : goal.returns
returns c = λ m sp w. well_formed m c.args.exchange.now c.fits_slice.ensures sp w
